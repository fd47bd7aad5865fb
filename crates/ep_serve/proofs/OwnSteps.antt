-- Own instances that are executed, and what is reported of it.
use Rattle.std.proofs.Common.{◌≡◌, ◌⊎◌, ◌≤◌, ◌<◌, ◌+◌, ◌-◌, ◌^◌, ℕ, zero, suc, Bool, true, false, List, [], ◌∷◌, length, Option, Some, None, Result, Ok, Err, inl, inr, refl, sym, ap, ◌∙◌, subst, arith}
use Rattle.std.specs.Prelude.{IfOk, OnErr}
use Rattle.std.proofs.lemmas.Bool.{false≢true}
use Rattle.std.proofs.lemmas.List.{length-append}
use Rattle.ep_base.specs.declared.decree.Decree.{Decree}
use Rattle.ep_journal.specs.Leaving.{state_left}
use Rattle.ep_journal.specs.Openings.{Opening}
use Rattle.ep_journal.specs.declared.entry.Entry.{Entry}
use Rattle.ep_journal.specs.declared.step_fault.StepFault.{StepFault}
use Rattle.ep_journal.specs.declared.step_fault.StepFault.TheVariants.{StampFull}
use Rattle.ep_replica.specs.Kept.{Kept}
use Rattle.ep_replica.specs.Pending.{ExecutesNext, IsHeldUp, IsPending, IsWaiting, TriesNext}
use Rattle.ep_rules.proofs.Lookups.{none_there}
use Rattle.ep_rules.specs.Cells.{committed_decree, record_or_fresh}
use Rattle.ep_rules.specs.Maps.{none}
use Rattle.ep_rules.specs.States.{committed_in}
use Rattle.ep_rules.specs.declared.record.Record.{Record}
use Rattle.ep_serve.specs.Acting.{made_since, stopped_since, AdvancesAll, AdvancesShort, ExecutesSo}
use Rattle.ep_serve.specs.declared.pending_answer.PendingAnswer.{PendingAnswer}

-- Own instances, one after the other.

-- one more was executed
pub so_next : (n : ℕ) (start k k' : Kept) (executed : Bool) → executed ≡ true → ExecutesSo n start k → ExecutesNext k executed k' → ExecutesSo (n + 1) start k'
so_next n start k k' executed is so next =
    let more : suc n ≡ n + 1 = omega arith in
    subst (λ (m : ℕ). ExecutesSo m start k') more (k, so, subst (λ (b : Bool). ExecutesNext k b k') is next)

-- none is ready, and so it stays
pub none_next : (k k' : Kept) (executed : Bool) → executed ≡ false → TriesNext k (Ok executed) k' → TriesNext k' (Ok false) k'
none_next k k' true is tries = absurd (false≢true (sym is))
none_next k k' false is tries = (subst (λ (x : Kept). (j : ℕ) → IsPending x j → IsWaiting x j) (sym tries.1) tries.0, refl)

-- What is reported.

abbrev pub AdvancesSome : Kept → Kept → Type 0
AdvancesSome k k' = (times : ℕ) × ExecutesSo times k k'

-- all that were ready were executed
pub all_made : (k k' : Kept) (from : ℕ) (due : PendingAnswer) → AdvancesSome k k' → TriesNext k' (Ok false) k' → from ≡ length k.entries → due ≡ made_since from k' → AdvancesAll k due k'
all_made k k' from due some none is reported = (some.0, some.1, inl (none.0, reported ∙ ap (λ n. made_since n k') is))

-- the next one was refused
pub stopped_advance : {E : Type 0} (k k' : Kept) (from : ℕ) (fault : StepFault) (result : Result PendingAnswer E) → AdvancesSome k k' → IsHeldUp k' fault → from ≡ length k.entries → IfOk result (λ due. (fault ≡ StampFull) × (due ≡ stopped_since from k'))
    → IfOk result (λ due. AdvancesAll k due k')
stopped_advance k k' from fault (Ok due) some held is reported = (some.0, some.1, inr (subst (λ (f : StepFault). IsHeldUp k' f) reported.0 held, reported.1 ∙ ap (λ n. stopped_since n k') is))
stopped_advance k k' from fault (Err e) some held is reported = tt

-- memory was wanted for the next one
pub short_advance : {E : Type 0} (k k' : Kept) (fault : StepFault) (result : Result PendingAnswer E) → AdvancesSome k k' → IsHeldUp k' fault → OnErr result (AdvancesShort k k')
short_advance k k' fault (Ok due) some held = tt
short_advance k k' fault (Err e) some held = (some.0, some.1, (held.0, held.1, inl refl, inl refl, held.4))

-- Each makes an entry.
times_are : (n : ℕ) (k k' : Kept) → ExecutesSo n k k' → length k'.entries ≡ length k.entries + n
times_are zero k k' h = let same : length k'.entries ≡ length k.entries = ap (λ (x : Kept). length x.entries) h in omega arith
times_are (suc n) k k' h =
    let e : Entry = h.2.2.0 in
    let before : length h.0.entries ≡ length k.entries + n = times_are n k h.0 h.1 in
    let more : length k'.entries ≡ length h.0.entries + 1 = ap (λ (x : Kept). length x.entries) h.2.2.1.appended ∙ length-append h.0.entries (e ∷ []) in
    omega arith

-- a replica with no entries has committed nothing
entries_some : (o : Opening) (f me i : ℕ) (x : Decree) (es : List Entry) → committed_in (state_left o f me es).records i ≡ Some x → 1 ≤ length es
entries_some o f me i x [] is =
    let nothing : committed_in none i ≡ None = ap (λ (r : Option Record). committed_decree (record_or_fresh i r).vote) (none_there i) in
    absurd (let e : None ≡ Some x = sym nothing ∙ is in cc)
entries_some o f me i x (e ∷ es) is = omega arith

so_some : (n : ℕ) (k k' : Kept) → ExecutesSo (suc n) k k' → 1 ≤ length k.entries
so_some zero k k' h = subst (λ (x : Kept). 1 ≤ length x.entries) h.1 (entries_some h.0.opening h.0.faults h.0.me h.2.0 h.2.1.decree h.0.entries h.2.1.committed)
so_some (suc n) k k' h = so_some n k h.0 h.1

-- no replica has so many
pub so_few : (n taken : ℕ) (k k' : Kept) → 18446744073709551615 ≤ n → ExecutesSo n k k' → taken ≡ length k'.entries → taken < 2 ^ 64 → ⊥
so_few zero taken k k' many h is low = omega arith
so_few (suc n) taken k k' many h is low =
    let are : length k'.entries ≡ length k.entries + suc n = times_are (suc n) k k' h in
    let some : 1 ≤ length k.entries = so_some n k k' h in
    omega arith

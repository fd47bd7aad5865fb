-- What a try to execute an own instance comes to.
use Rattle.std.proofs.Common.{◌≡◌, ℕ, ◌+◌, ◌<◌, ◌≤◌, ◌⊎◌, inl, inr, List, Bool, true, false, Ok, Err, Option, Some, None, refl, sym, ap, subst, ◌∙◌, arith, length, get_or, IfSome}
use Rattle.std.proofs.lemmas.Bool.{cases_lt}
use Rattle.ep_base.specs.Instances.{instance_of, leader_of, number_of, highest_number}
use Rattle.ep_journal.specs.declared.entry.Entry.{Entry}
use Rattle.ep_journal.specs.declared.event.Event.TheVariants.{Execute}
use Rattle.ep_journal.specs.declared.step_fault.StepFault.{StepFault}
use Rattle.ep_journal.specs.declared.step_fault.StepFault.TheVariants.{Memory, StampFull}
use Rattle.ep_replica.specs.Applied.{Applied, IsDeclined}
use Rattle.ep_replica.specs.Kept.{Kept}
use Rattle.ep_base.specs.Places.{Has}
use Rattle.ep_exec.proofs.Counts.{place_at}
use Rattle.ep_base.specs.declared.attrs.Attrs.{Attrs}
use Rattle.ep_rules.specs.Cells.{committed_decree, record_or_fresh}
use Rattle.ep_rules.specs.Maps.{get}
use Rattle.ep_rules.specs.States.{committed_in, graph_in}
use Rattle.ep_rules.specs.declared.record.Record.{Record}
use Rattle.ep_replica.specs.Blockers.{IsBlockedBy}
use Rattle.ep_rules.proofs.Reaching.{reach_trans}
use Rattle.ep_rules.specs.Graph.Reaches.{itself, onward}
use Rattle.ep_replica.specs.Pending.{state_of, IsPending, IsWaiting, LesserWait, IsNext, ExecutesNext, TriesNext}
use Rattle.ep_space.specs.Open.{IsAbove}

-- Instances by their numbers.

own_again : (me j : ℕ) → leader_of j ≡ me → instance_of me (number_of j) ≡ j
own_again me j own = omega arith

pending_again : (k : Kept) (j : ℕ) → IsPending k j → IsPending k (instance_of k.me (number_of j))
pending_again k j p = subst (λ z. IsPending k z) (sym (own_again k.me j p.own)) p

-- The least pending instance.

-- no own instance below this number is above `after` and pending
abbrev pub NoneBelow : Kept → Option ℕ → ℕ → Type 0
NoneBelow k after n = (m : ℕ) → 1 ≤ m → m < n → IsAbove after (instance_of k.me m) → ¬ IsPending k (instance_of k.me m)

pub next_none : (k : Kept) (after : Option ℕ) (n : ℕ) → ((i : ℕ) (r : Record) → get (state_of k).records i ≡ Some r → number_of i < n) → NoneBelow k after n → IsNext k after None
next_none k after n all h j p above = h (number_of j) p.named.1 (recorded (get (state_of k).records j) refl) (subst (λ z. IsAbove after z) (sym (own_again k.me j p.own)) above) (pending_again k j p)
  where
    recorded : (o : Option Record) → get (state_of k).records j ≡ o → number_of j < n
    recorded None e = absurd (let nothing : committed_in (state_of k).records j ≡ None = ap (λ z. committed_decree (record_or_fresh j z).vote) e in let z : None ≡ Some p.decree = sym nothing ∙ p.committed in cc)
    recorded (Some r) e = all j r e

-- The least one that doesn't wait.

-- each pending instance below this number waits
abbrev pub AllWait : Kept → ℕ → Type 0
AllWait k n = (m : ℕ) → 1 ≤ m → m < n → IsPending k (instance_of k.me m) → IsWaiting k (instance_of k.me m)

pub wait_more : (k : Kept) (n m : ℕ) → AllWait k n → ((l : ℕ) → n ≤ l → l < m → IsPending k (instance_of k.me l) → IsWaiting k (instance_of k.me l)) → AllWait k m
wait_more k n m h more l some low p = elim (cases_lt l n) [
  | inl lt ↦ h l some lt p
  | inr le ↦ more l (omega arith) low p
]

pub all_wait : (k : Kept) (n : ℕ) → highest_number < n → AllWait k n → (j : ℕ) → IsPending k j → IsWaiting k j
all_wait k n past h j p = subst (λ z. IsWaiting k z) (own_again k.me j p.own) (h (number_of j) p.named.1 (let le = p.named.2 in omega arith) (pending_again k j p))

pub lesser_wait : (k : Kept) (n i : ℕ) → i ≡ instance_of k.me n → n ≤ highest_number → AllWait k n → LesserWait k i
lesser_wait k n i is few h j p low =
    let own = own_again k.me j p.own in
    let le = p.named.2 in
    subst (λ z. IsWaiting k z) own (h (number_of j) p.named.1 (omega arith) (pending_again k j p))

-- A try at the least that is due.

-- what was tried waits, and so do those up to the next one
pub passed_next : (k s : Kept) (n m i : ℕ) → s ≡ k → i ≡ instance_of s.me n → AllWait k n → (IsPending s i → IsWaiting s i) → ((l : ℕ) → n + 1 ≤ l → l < m → IsPending s (instance_of s.me l) → IsWaiting s (instance_of s.me l)) → AllWait k m
passed_next k s n m i same is h tried more = wait_more k n m h (λ l le low p. elim (cases_lt n l) [
  | inl above ↦ subst (λ (z : Kept). IsPending z (instance_of z.me l) → IsWaiting z (instance_of z.me l)) same (more l (omega arith) low) p
  | inr le_n ↦ (
      let at : l ≡ n = omega arith in
      let here : IsPending s (instance_of s.me n) → IsWaiting s (instance_of s.me n) = subst (λ j. IsPending s j → IsWaiting s j) is tried in
      subst (λ (z : Kept). IsPending z (instance_of z.me l) → IsWaiting z (instance_of z.me l)) same (subst (λ x. IsPending s (instance_of s.me x) → IsWaiting s (instance_of s.me x)) (sym at) here) p)
])

pub executed_next : (k s k' : Kept) (n i : ℕ) → s ≡ k → i ≡ instance_of s.me n → n ≤ highest_number → AllWait k n → IsPending s i × ((e : Entry) × Applied s (Execute i) e k') → ExecutesNext k true k'
executed_next k s k' n i same is few h t =
    let here : i ≡ instance_of k.me n = is ∙ ap (λ (z : Kept). instance_of z.me n) same in
    (i, subst (λ (z : Kept). IsPending z i) same t.0, subst (λ (z : Kept). (e : Entry) × Applied z (Execute i) e k') same t.1, lesser_wait k n i here few h)

pub refused_next : (k s k' : Kept) (n i : ℕ) (fault : StepFault) → s ≡ k → i ≡ instance_of s.me n → n ≤ highest_number → AllWait k n → (fault ≡ Memory) ⊎ (fault ≡ StampFull)
    → IsPending s i × IsDeclined s (Execute i) fault × (k' ≡ s) → TriesNext k (Err fault) k'
refused_next k s k' n i fault same is few h short t =
    let here : i ≡ instance_of k.me n = is ∙ ap (λ (z : Kept). instance_of z.me n) same in
    ((i, subst (λ (z : Kept). IsPending z i) same t.0, subst (λ (z : Kept). IsDeclined z (Execute i) fault) same t.1, short, lesser_wait k n i here few h), t.2 ∙ same)

-- What isn't distinguished.

pub reported_next : (k k' : Kept) (executed : Bool) → TriesNext k (Ok executed) k' → ExecutesNext k executed k'
reported_next k k' true t = t
reported_next k k' false t = (inl t.0, t.1)

pub held_next : (k k' : Kept) (fault : StepFault) → TriesNext k (Err fault) k' → ExecutesNext k false k'
held_next k k' fault t = let h = t.0 in (inr (h.0, h.1, (fault, h.2, h.3), h.4), t.1)

-- what depends on a blocked instance is blocked
pub blocked_on : (k : Kept) (i : ℕ) (a : Attrs) (o : Option ℕ) → graph_in (state_of k).records i ≡ Some a → IfSome o (λ j. (d : ℕ) × Has a.deps d × IsBlockedBy k d j) → IfSome o (IsBlockedBy k i)
blocked_on k i a None is h = tt
blocked_on k i a (Some j) is h = (reach_trans (onward a itself is h.1) h.2.0, h.2.1)

-- an element of a list is in it
pub has_item : (xs : List ℕ) (n x i : ℕ) → n < length xs → x ≡ get_or xs n x → x ≡ i → Has xs i
has_item xs n x i low is same = subst (λ z. Has xs z) same (subst (λ z. Has xs z) (sym is) (let p = place_at xs n x low in omega arith))

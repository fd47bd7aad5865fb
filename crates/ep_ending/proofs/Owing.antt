-- What replicas owe, one instance after another.
use Rattle.std.proofs.Common.{◌≡◌, ◌≢◌, inl, inr, ℕ, suc, ◌+◌, ◌<◌, ◌≤◌, Bool, true, false, eqb, List, [], ◌∷◌, ◌++◌, Option, Some, None, Result, Ok, Err, refl, sym, ap, subst, ◌∙◌, arith, append-nil, append_assoc}
use Rattle.std.specs.Prelude.{OnOk}
use Rattle.std.proofs.lemmas.Bool.{eqb-true, eqb-false, cases_lt}
use Rattle.ep_base.specs.Instances.{instance_of, leader_of, number_of, highest_number, IsInstance}
use Rattle.ep_base.specs.Quorums.{size}
use Rattle.ep_base.specs.declared.decree.Decree.{Decree}
use Rattle.ep_exec.specs.Missing.{IsMissing}
use Rattle.ep_journal.specs.Entries.{Log, Collected}
use Rattle.ep_rules.specs.Cells.{committed_decree, record_or_fresh}
use Rattle.ep_rules.specs.Maps.{get}
use Rattle.ep_rules.specs.States.{graph_in}
use Rattle.ep_rules.specs.Worlds.{In}
use Rattle.ep_rules.specs.declared.record.Record.{Record}
use Rattle.ep_rules.proofs.Merged.{in_left, in_right, in_split}
use Rattle.ep_ending.proofs.Listing.{rising_more}
use Rattle.ep_ending.specs.Lines.{owed_line}
use Rattle.ep_ending.specs.Endings.{log_at, state_of, IsOwedBy, IsOwed, IsOwedLine, AreOwedLines, AddsOwed, AddsOwedOf, AddsOwedBefore, AddsIfOwed}
use Rattle.ep_ending.specs.Endings.AddsIfOwed.{settled, owed}

pub is_settled : (l : Log) (i : ℕ) (t : List ℕ) → ¬ IsOwedBy l i → AddsIfOwed l i t t
is_settled l i t h = settled h refl

pub is_reported :
    {T E : Type 0} (r : Result T E) (l : Log) (i : ℕ) (old new : List ℕ) → IsOwedBy l i → OnOk r ((line : List ℕ) × IsOwedLine l i line × (new ≡ old ++ line)) → OnOk r (AddsIfOwed l i old new)
is_reported (Err e) l i old new is reported = tt
is_reported (Ok x) l i old new is reported = owed reported.0 is reported.1 reported.2

pub one_owed :
    {T E : Type 0} (r : Result T E) (l : Log) (i me : ℕ) (missing : Option ℕ) (old new : List ℕ) → IsMissing (graph_in (state_of l).records) i missing → me ≡ l.me →
    OnOk r (new ≡ old ++ owed_line me i missing) → OnOk r ((line : List ℕ) × IsOwedLine l i line × (new ≡ old ++ line))
one_owed (Err e) l i me missing old new lacks here reported = tt
one_owed (Ok x) l i me missing old new lacks here reported = (owed_line l.me i missing, (missing, lacks, refl), reported ∙ ap (λ (r : ℕ). old ++ owed_line r i missing) here)

-- before the first instance nothing is owed
pub owed_first : (c : Collected) (end : ℕ) (t : List ℕ) → end ≡ 0 → AddsOwedBefore c end t t
owed_first c end t first = ([], tt, (λ i. ((λ h. absurd h), (λ h. let lt : i < end = h.1 in omega arith))), ([], refl, sym (append-nil t)))

-- the same of other instances, which are the same
these_are : (c : Collected) (P Q : ℕ → Type 0) (old new : List ℕ) → ((i : ℕ) → P i → Q i) → ((i : ℕ) → Q i → P i) → AddsOwedOf c P old new → AddsOwedOf c Q old new
these_are c P Q old new to from h = (h.0, h.1, (λ i. ((λ m. to i ((h.2 i).0 m)), (λ q. (h.2 i).1 (from i q)))), h.3)

-- up to a later instance, where none between is owed
further : (c : Collected) (n m : ℕ) (old new : List ℕ) → n ≤ m → ((i : ℕ) → n ≤ i → i < m → ¬ IsOwed c i) → AddsOwedBefore c n old new → AddsOwedBefore c m old new
further c n m old new le none =
    these_are c (λ i. IsOwed c i × (i < n)) (λ i. IsOwed c i × (i < m)) old new (λ i h. (h.0, omega (arith, h.1))) (λ i h. (h.0, before i h))
  where
    before : (i : ℕ) → IsOwed c i × (i < m) → i < n
    before i h = elim (cases_lt i n) [ inl lt ↦ lt | inr ge ↦ absurd (none i (omega (arith, ge)) h.1 h.0) ]

lines_more : (c : Collected) (is : List ℕ) (i : ℕ) (text line : List ℕ) → AreOwedLines c is text → IsOwedLine (log_at c (leader_of i)) i line → AreOwedLines c (is ++ i ∷ []) (text ++ line)
lines_more c [] i text line h is = (line, [], is, refl, ap (λ (t : List ℕ). t ++ line) h ∙ sym (append-nil line))
lines_more c (j ∷ js) i text line h is =
    (h.0, h.1 ++ line, h.2, lines_more c js i h.1 line h.3 is, ap (λ (t : List ℕ). t ++ line) h.4 ∙ append_assoc h.0 h.1 line)

-- one instance more
pub owed_next :
    (c : Collected) (l : Log) (i end : ℕ) (first mid new : List ℕ) → IsInstance i → leader_of i < size c.faults → l ≡ log_at c (leader_of i) → end ≡ i + 1 →
    AddsOwedBefore c i first mid → AddsIfOwed l i mid new → AddsOwedBefore c end first new
owed_next c l i end first mid new is there here next before (settled none same) =
    subst (λ (t : List ℕ). AddsOwedBefore c end first t) (sym same)
    (further c i end first mid (omega (arith, next)) (λ j ge lt o. none (subst (λ (k : ℕ). IsOwedBy l k) (omega (arith, ge, lt, next)) (subst (λ (g : Log). IsOwedBy g j) (own j ge lt) o.2))) before)
  where
    own : (j : ℕ) → i ≤ j → j < end → log_at c (leader_of j) ≡ l
    own j ge lt = let e : j ≡ i = omega (arith, ge, lt, next) in ap (λ (k : ℕ). log_at c (leader_of k)) e ∙ sym here
owed_next c l i end first mid new is there here next before (owed line owes reported text) = (
  before.0 ++ i ∷ [],
  rising_more before.0 i before.1 (λ j m. ((before.2 j).0 m).1),
  (λ j. (to j, from j)),
  (
    before.3.0 ++ line,
    lines_more c before.0 i before.3.0 line before.3.1 (subst (λ (g : Log). IsOwedLine g i line) here reported),
    text ∙ ap (λ (t : List ℕ). t ++ line) before.3.2 ∙ append_assoc first before.3.0 line,
  ),
)
  where
    this : IsOwed c i
    this = (is, there, subst (λ (g : Log). IsOwedBy g i) here owes)

    to : (j : ℕ) → In j (before.0 ++ i ∷ []) → IsOwed c j × (j < end)
    to j m = elim (in_split j before.0 (i ∷ []) m) [
      | inl early ↦ (let w = (before.2 j).0 early in (w.0, let lt : j < i = w.1 in omega (arith, next)))
      | inr (inl e) ↦ (subst (IsOwed c) e this, omega (arith, next))
      | inr (inr none) ↦ absurd none
    ]

    from : (j : ℕ) → IsOwed c j × (j < end) → In j (before.0 ++ i ∷ [])
    from j h = go (eqb i j) refl
      where
        go : (b : Bool) → eqb i j ≡ b → In j (before.0 ++ i ∷ [])
        go true test = in_right j before.0 (i ∷ []) (inl (eqb-true i j test))
        go false test = let apart : i ≢ j = eqb-false i j test in let lt : j < end = h.1 in in_left j before.0 (i ∷ []) ((before.2 j).1 (h.0, omega (arith, next)))

-- the replica's own instance of this number
pub owed_own :
    (c : Collected) (l : Log) (r me n i : ℕ) (first mid new : List ℕ) → r ≤ 6 → r < size c.faults → l ≡ log_at c r → me ≡ l.me → 1 ≤ n → n ≤ highest_number → i ≡ instance_of me n →
    AddsOwedBefore c (instance_of r n) first mid → AddsIfOwed l i mid new → AddsOwedBefore c (instance_of r (n + 1)) first new
owed_own c l r me n i first mid new low there here own least most is before adds =
    let e : me ≡ r = own ∙ ap (λ (g : Log). g.me) here in
    let at : i ≡ instance_of r n = is ∙ ap (λ k. instance_of k n) e in
    let leader : leader_of i ≡ r = omega (arith, at, most) in
    let number : number_of i ≡ n = omega (arith, at, most) in
    let instance : IsInstance i = (omega (arith, leader, low), omega (arith, number, least), omega (arith, number, most)) in
    owed_next c l i (instance_of r (n + 1)) first mid new instance (omega (arith, leader, there)) (here ∙ ap (log_at c) (sym leader)) (omega (arith, at))
    (subst (λ k. AddsOwedBefore c k first mid) (sym at) before) adds

-- no instance has the number 0
pub owed_from_one : (c : Collected) (r : ℕ) (old new : List ℕ) → AddsOwedBefore c (instance_of r 0) old new → AddsOwedBefore c (instance_of r 1) old new
owed_from_one c r old new = further c (instance_of r 0) (instance_of r 1) old new (omega arith) (λ i ge lt o. let least : 1 ≤ number_of i = o.0.1 in omega (arith, ge, lt))

recorded : (i : ℕ) (o : Option Record) (d : Decree) → committed_decree (record_or_fresh i o).vote ≡ Some d → (r : Record) × (o ≡ Some r)
recorded i None d e = absurd (cc)
recorded i (Some r) d e = (r, refl)

-- where nothing is recorded above this number, no more is owed up to the next replica's instances
pub owed_all :
    (c : Collected) (l : Log) (r most number : ℕ) (old new : List ℕ) → l ≡ log_at c r → number ≡ most + 1 → most ≤ highest_number →
    ((i : ℕ) (x : Record) → get (state_of l).records i ≡ Some x → number_of i ≤ most) →
    AddsOwedBefore c (instance_of r number) old new → AddsOwedBefore c (instance_of (suc r) 0) old new
owed_all c l r most number old new here is high all =
    further c (instance_of r number) (instance_of (suc r) 0) old new (omega (arith, is, high)) none
  where
    none : (i : ℕ) → instance_of r number ≤ i → i < instance_of (suc r) 0 → ¬ IsOwed c i
    none i ge lt o =
        let leader : leader_of i ≡ r = omega (arith, ge, lt) in
        let by : IsOwedBy l i = subst (λ (g : Log). IsOwedBy g i) (ap (log_at c) leader ∙ sym here) o.2 in
        let there = recorded i (get (state_of l).records i) by.decree by.committed in
        let low : number_of i ≤ most = all i there.0 there.1 in
        omega (arith, ge, lt, is)

-- after the last replica
pub owed_by_all : (c : Collected) (n : ℕ) (old new : List ℕ) → n ≡ size c.faults → AddsOwedBefore c (instance_of n 0) old new → AddsOwed c old new
owed_by_all c n old new is =
    these_are c (λ i. IsOwed c i × (i < instance_of n 0)) (IsOwed c) old new (λ i h. h.0) (λ i o. (o, let there : leader_of i < size c.faults = o.1 in omega (arith, is)))

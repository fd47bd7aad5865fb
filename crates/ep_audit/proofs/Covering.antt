-- A table that is made instance by instance has all that is agreed on.
use Rattle.std.proofs.Common.{◌≡◌, ℕ, zero, suc, ◌+◌, ◌<◌, ◌≤◌, inl, inr, Option, Some, None, List, [], ◌∷◌, ◌++◌, refl, sym, ap, subst, ◌∙◌, arith}
use Rattle.std.proofs.lemmas.Bool.{cases_eq, cases_lt}
use Rattle.std.proofs.lemmas.Option.{same_Some}
use Rattle.ep_base.specs.Deps.{IsRising}
use Rattle.ep_base.specs.Instances.{instance_of, number_of, highest_number}
use Rattle.ep_base.specs.Quorums.{size}
use Rattle.ep_base.specs.declared.decree.Decree.{Decree}
use Rattle.ep_rules.specs.Journals.{Journals, left}
use Rattle.ep_rules.specs.Cells.{committed_decree, record_or_fresh}
use Rattle.ep_rules.specs.Maps.{get}
use Rattle.ep_rules.specs.States.{fresh_state, committed_in}
use Rattle.ep_rules.specs.Verdicts.{or_else, instances_of, committed_by, agreed_below, agreed, IsTable}
use Rattle.ep_rules.specs.Worlds.{In}
use Rattle.ep_rules.proofs.Merged.{in_left, in_right, in_split}
use Rattle.ep_journal.specs.Entries.{Log, Collected, entries_of, entries_at, journals_of}
use Rattle.ep_journal.specs.Openings.{opens}
use Rattle.ep_journal.specs.Leaving.{standing, IsNamed}
use Rattle.ep_audit.specs.Tables.{and_row, Covers}
use Rattle.ep_rules.specs.OneMap.{Store}

-- The first that commits.

first_found : (base : Store) (n f : ℕ) (journal : Journals) (i : ℕ) (x : Decree) → n < size f → agreed_below base n f journal i ≡ None → committed_by base f journal n i ≡ Some x → agreed base f journal i ≡ Some x
first_found base n f journal i x lt none here = still (size f) (omega arith)
  where
    at : agreed_below base (suc n) f journal i ≡ Some x
    at = ap (λ z. or_else z (committed_by base f journal n i)) none ∙ here

    still : (k : ℕ) → suc n ≤ k → agreed_below base k f journal i ≡ Some x
    still zero le = absurd (omega arith)
    still (suc k) le = elim (cases_lt n k) [
      | inl less ↦ ap (λ z. or_else z (committed_by base f journal k i)) (still k (omega arith))
      | inr ge ↦ (let same : suc n ≡ suc k = omega arith in subst (λ m. agreed_below base m f journal i ≡ Some x) same at)
    ]

-- what the journal of n commits is agreed on where none before it commits there
pub found_here : (c : Collected) (n r : ℕ) (l : Log) (i : ℕ) (x : Decree) → (r < size c.faults) × (l.version ≡ c.version) × (l.faults ≡ c.faults) × (l.me ≡ r) × (l.opening ≡ c.opening) × (l.entries ≡ entries_at c r) → r ≡ n → agreed_below (opens c.opening) n c.faults (journals_of c) i ≡ None
    → Some x ≡ committed_in (standing l).state.records i → Some x ≡ agreed (opens c.opening) c.faults (journals_of c) i
found_here c n r l i x is at none e = sym (first_found (opens c.opening) n c.faults (journals_of c) i x (subst (λ m. m < size c.faults) at is.0) none (subst (λ m. committed_by (opens c.opening) c.faults (journals_of c) m i ≡ Some x) at (sym (e ∙ here))))
  where
    here : committed_in (standing l).state.records i ≡ committed_by (opens c.opening) c.faults (journals_of c) r i
    here = λ t. committed_in (left (is.2 t) (is.3 t) (fresh_state (opens (is.4 t))) (entries_of (is.5 t))).records i

-- Rows in rising order.

rising_append : (t : List (ℕ × Decree)) (i : ℕ) (x : Decree) → IsRising (instances_of t) → ((j : ℕ) (y : Decree) → In (j, y) t → j < i) → IsRising (instances_of (t ++ ((i, x) ∷ [])))
rising_append [] i x rs h = (tt, tt)
rising_append (e ∷ []) i x rs h = (h e.0 e.1 (inl refl), (tt, tt))
rising_append (e ∷ d ∷ t) i x rs h = (rs.0, rising_append (d ∷ t) i x rs.1 (λ j y k. h j y (inr k)))

same_row : (i j : ℕ) (x y : Decree) → ◌≡◌ {A = ℕ × Decree} (i, x) (j, y) → (i ≡ j) × (x ≡ y)
same_row i j x y e = (ap (λ p. p.0) e, ap (λ p. p.1) e)

none_some : {A : Type 0} (x : Decree) → None ≡ Some x → A
none_some x e = absurd (cc)

module _ (agreed : ℕ → Option Decree) (bound : ℕ) (table : List (ℕ × Decree)) (h : Covers agreed bound table) where
  with_row : (o : Option Decree) → agreed bound ≡ o → Covers agreed (bound + 1) (and_row table bound o)
  with_row None e = record {
    rises = h.rises;
    below = λ i x. (
      (λ k. let t = (h.below i x).0 k in (omega (arith, t.0), t.1)),
      (λ k. elim (cases_eq i bound) [
        | inl is ↦ none_some x (sym e ∙ ap agreed (sym is) ∙ k.1)
        | inr ne ↦ (h.below i x).1 (let l = k.0 in omega arith, k.1)
      ]),
    );
  }
  with_row (Some y) e = record {
    rises = rising_append table bound y h.rises (λ j z k. ((h.below j z).0 k).0);
    below = λ i x. (
      (λ k. elim (in_split (i, x) table ((bound, y) ∷ []) k) [
        | inl old ↦ (let t = (h.below i x).0 old in (omega (arith, t.0), t.1))
        | inr new ↦ (elim new [
          | inl is ↦ (let p = same_row bound i y x is in (let q = p.0 in omega arith, ap agreed (sym p.0) ∙ e ∙ ap Some p.1))
          | inr none ↦ absurd none
        ])
      ]),
      (λ k. elim (cases_eq i bound) [
        | inl is ↦ (let same : y ≡ x = same_Some y x (sym e ∙ ap agreed (sym is) ∙ k.1) in in_right (i, x) table ((bound, y) ∷ []) (inl (λ t. (sym is t, same t))))
        | inr ne ↦ in_left (i, x) table ((bound, y) ∷ []) ((h.below i x).1 (let l = k.0 in omega arith, k.1))
      ]),
    );
  }

  pub covers_next : Covers agreed (bound + 1) (and_row table bound (agreed bound))
  covers_next = with_row (agreed bound) refl

  -- nothing is agreed on from the bound up to c
  pub covers_gap : (c : ℕ) → bound ≤ c → ((i : ℕ) (x : Decree) → bound ≤ i → i < c → agreed i ≡ Some x → ⊥) → Covers agreed c table
  covers_gap c le none = record {
    rises = h.rises;
    below = λ i x. (
      (λ k. let t = (h.below i x).0 k in (omega (arith, t.0), t.1)),
      (λ k. elim (cases_lt i bound) [
        | inl lt ↦ (h.below i x).1 (lt, k.1)
        | inr ge ↦ absurd (none i x ge k.0 k.1)
      ]),
    );
  }

pub covers_none : (agreed : ℕ → Option Decree) → ((i : ℕ) (x : Decree) → agreed i ≡ Some x → 1 ≤ number_of i) → Covers agreed (instance_of 0 1) []
covers_none agreed named = record {
  rises = tt;
  below = λ i x. ((λ k. absurd k), (λ k. absurd (let l = named i x k.1 in let lt = k.0 in let z : i ≡ 0 = omega arith in let m : 1 ≤ number_of 0 = subst (λ j. 1 ≤ number_of j) z l in omega arith)));
}

-- from one replica's instances to those of the next
pub covers_leader : (f leader top : ℕ) (agreed : ℕ → Option Decree) (table : List (ℕ × Decree)) → top ≤ highest_number → ((i : ℕ) (x : Decree) → agreed i ≡ Some x → IsNamed f i × (number_of i ≤ top)) →
    Covers agreed (instance_of leader (top + 1)) table → Covers agreed (instance_of (leader + 1) 1) table
covers_leader f leader top agreed table small named h =
    covers_gap agreed (instance_of leader (top + 1)) table h (instance_of (leader + 1) 1) (omega (arith, small)) (λ i x ge lt e. let n = named i x e in not_between leader i ge lt n.0.1 n.1)
  where
    not_between : (leader i : ℕ) → instance_of leader (top + 1) ≤ i → i < instance_of (leader + 1) 1 → 1 ≤ number_of i → number_of i ≤ top → ⊥
    not_between leader i ge lt low high = omega (arith, small, ge, lt, low, high)

-- no journal of a replica below n commits in i where none before it does, and it has no record there
pub none_here : (c : Collected) (n r : ℕ) (l : Log) (i : ℕ) → (r < size c.faults) × (l.version ≡ c.version) × (l.faults ≡ c.faults) × (l.me ≡ r) × (l.opening ≡ c.opening) × (l.entries ≡ entries_at c r) → r ≡ n → agreed_below (opens c.opening) n c.faults (journals_of c) i ≡ None
    → get (standing l).state.records i ≡ None → agreed_below (opens c.opening) (n + 1) c.faults (journals_of c) i ≡ None
none_here c n r l i is at none e = subst (λ m. agreed_below (opens c.opening) m c.faults (journals_of c) i ≡ None) next with_it
  where
    next : suc n ≡ n + 1
    next = omega arith

    here : committed_in (standing l).state.records i ≡ committed_by (opens c.opening) c.faults (journals_of c) r i
    here = λ t. committed_in (left (is.2 t) (is.3 t) (fresh_state (opens (is.4 t))) (entries_of (is.5 t))).records i

    with_it : agreed_below (opens c.opening) (suc n) c.faults (journals_of c) i ≡ None
    with_it =
        ap (λ z. or_else z (committed_by (opens c.opening) c.faults (journals_of c) n i)) none
        ∙ sym (subst (λ m. None ≡ committed_by (opens c.opening) c.faults (journals_of c) m i) at (sym (ap (λ o. committed_decree (record_or_fresh i o).vote) e) ∙ here))

-- what the journals commit in has a number up to this one, where nothing is committed above it
pub named_below : (f top : ℕ) (agreed : ℕ → Option Decree) → ((i : ℕ) (x : Decree) → agreed i ≡ Some x → IsNamed f i) → ((i : ℕ) → top < number_of i → agreed i ≡ None)
    → (i : ℕ) (x : Decree) → agreed i ≡ Some x → IsNamed f i × (number_of i ≤ top)
named_below f top agreed named none i x e = (
  named i x e,
  elim (cases_lt top (number_of i)) [
    | inl past ↦ absurd (let z : None ≡ Some x = sym (none i past) ∙ e in cc)
    | inr le ↦ le
  ],
)

pub covers_all : (base : Store) (f : ℕ) (journal : Journals) (table : List (ℕ × Decree)) → ((i : ℕ) (x : Decree) → agreed base f journal i ≡ Some x → IsNamed f i) → Covers (agreed base f journal) (instance_of (size f) 1) table → IsTable base f journal table
covers_all base f journal table named h = record {
  rises = h.rises;
  holds = λ i x. ((λ k. ((h.below i x).0 k).1), (λ e. (h.below i x).1 (let n = (named i x e).0 in omega arith, e)));
}

-- What the least replica that commits in an instance commits is agreed on there.
use Rattle.std.proofs.Common.{◌≡◌, ℕ, zero, suc, ◌<◌, ◌≤◌, inl, inr, Option, Some, None, sym, ap, subst, ◌∙◌, arith}
use Rattle.std.proofs.lemmas.Bool.{cases_lt}
use Rattle.ep_base.specs.Quorums.{size}
use Rattle.ep_base.specs.declared.decree.Decree.{Decree}
use Rattle.ep_rules.specs.Journals.{Journals, left}
use Rattle.ep_rules.specs.States.{fresh_state, committed_in}
use Rattle.ep_rules.specs.Verdicts.{or_else, committed_by, agreed_below, agreed}
use Rattle.ep_journal.specs.Entries.{Log, Collected, entries_of, entries_at, journals_of}
use Rattle.ep_journal.specs.Openings.{opens}
use Rattle.ep_journal.specs.Leaving.{standing}
use Rattle.ep_rules.specs.OneMap.{Store}

first_found : (base : Store) (n f : ℕ) (journal : Journals) (i : ℕ) (x : Decree) → n < size f → agreed_below base n f journal i ≡ None → committed_by base f journal n i ≡ Some x → agreed base f journal i ≡ Some x
first_found base n f journal i x lt none here = still (size f) (omega arith)
  where
    at : agreed_below base (suc n) f journal i ≡ Some x
    at = ap (λ z. or_else z (committed_by base f journal n i)) none ∙ here

    still : (k : ℕ) → suc n ≤ k → agreed_below base k f journal i ≡ Some x
    still zero le = absurd (omega arith)
    still (suc k) le = elim (cases_lt n k) [
      | inl less ↦ ap (λ z. or_else z (committed_by base f journal k i)) (still k (omega arith))
      | inr ge ↦ (let same : suc n ≡ suc k = omega arith in subst (λ m. agreed_below base m f journal i ≡ Some x) same at)
    ]

-- what the journal of n commits is agreed on where none before it commits there
pub found_here : (c : Collected) (n r : ℕ) (l : Log) (i : ℕ) (x : Decree) → (r < size c.faults) × (l.version ≡ c.version) × (l.faults ≡ c.faults) × (l.me ≡ r) × (l.opening ≡ c.opening) × (l.entries ≡ entries_at c r) → r ≡ n → agreed_below (opens c.opening) n c.faults (journals_of c) i ≡ None
    → Some x ≡ committed_in (standing l).state.records i → Some x ≡ agreed (opens c.opening) c.faults (journals_of c) i
found_here c n r l i x is at none e = sym (first_found (opens c.opening) n c.faults (journals_of c) i x (subst (λ m. m < size c.faults) at is.0) none (subst (λ m. committed_by (opens c.opening) c.faults (journals_of c) m i ≡ Some x) at (sym (e ∙ here))))
  where
    here : committed_in (standing l).state.records i ≡ committed_by (opens c.opening) c.faults (journals_of c) r i
    here = λ t. committed_in (left (is.2 t) (is.3 t) (fresh_state (opens (is.4 t))) (entries_of (is.5 t))).records i

-- The least instance that is open at a replica, one replica after another.
use Rattle.std.proofs.Common.{◌≡◌, ℕ, suc, ◌<◌, ◌≤◌, ◌⊎◌, inl, inr, Option, Some, None, subst, arith}
use Rattle.ep_journal.specs.Entries.{Collected}
use Rattle.ep_rules.specs.Maps.{Map}
use Rattle.ep_rules.specs.declared.record.Record.{Record}
use Rattle.ep_space.specs.Open.{lesser, IsAbove, IsLeast, IsNextOpen, IsOpen}
use Rattle.ep_space.proofs.Opening.{least_lesser, least_same}
use Rattle.ep_ending.specs.Endings.{records_at, IsOpenBelow, IsLeastBelow}

pub next_least : (m : Map Record) (after found : Option ℕ) → IsNextOpen m after found → IsLeast (λ j. IsOpen m j × IsAbove after j) found
next_least m after None h = λ j o. h j o.0 o.1
next_least m after (Some i) h = ((h.0, h.1), λ j o. h.2 j o.0 o.1)

last_or : (r n : ℕ) → r < suc n → (r < n) ⊎ (r ≡ n)
last_or r n h = grind arith

pub least_none : (c : Collected) (after : Option ℕ) → IsLeastBelow c after 0 None
least_none c after j h = let low : h.0.0 < 0 = h.0.1 in absurd (omega arith)

pub least_more :
    (c : Collected) (after found other : Option ℕ) (n : ℕ) → IsLeastBelow c after n found → IsNextOpen (records_at c n) after other → IsLeastBelow c after (suc n) (lesser found other)
least_more c after found other n h o =
    least_same (λ j. (IsOpenBelow c n j × IsAbove after j) ⊎ (IsOpen (records_at c n) j × IsAbove after j)) (λ j. IsOpenBelow c (suc n) j × IsAbove after j) (lesser found other) to from
    (least_lesser (λ j. IsOpenBelow c n j × IsAbove after j) (λ j. IsOpen (records_at c n) j × IsAbove after j) found other h (next_least (records_at c n) after other o))
  where
    to : (j : ℕ) → (IsOpenBelow c n j × IsAbove after j) ⊎ (IsOpen (records_at c n) j × IsAbove after j) → IsOpenBelow c (suc n) j × IsAbove after j
    to j (inl x) = ((x.0.0, (let lt : x.0.0 < n = x.0.1 in omega arith), x.0.2), x.1)
    to j (inr x) = ((n, omega arith, x.0), x.1)

    from : (j : ℕ) → IsOpenBelow c (suc n) j × IsAbove after j → (IsOpenBelow c n j × IsAbove after j) ⊎ (IsOpen (records_at c n) j × IsAbove after j)
    from j x = elim (last_or x.0.0 n x.0.1) [
      | inl lt ↦ inl ((x.0.0, lt, x.0.2), x.1)
      | inr is ↦ inr (subst (λ (r : ℕ). IsOpen (records_at c r) j) is x.0.2, x.1)
    ]

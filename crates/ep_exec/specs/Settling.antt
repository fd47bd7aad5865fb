-- Layers that are put into a listing, some keys at a time.
use Rattle.std.specs.Prelude.{◌≡◌, ℕ, Bool, true, false, List, [], ◌∷◌, ◌++◌, take, drop, length}
use Rattle.std.specs.FinMap.{entries}
use Rattle.std.specs.Ordering.{is_lt}
use Rattle.ep_rules.specs.OneMap.{Contents}
use Rattle.ep_exec.specs.Layers.{stacked}
use Rattle.ep_exec.specs.Merging.{merged}
use Rattle.ep_exec.specs.Table.{Entry, key_cmp, over}
use Rattle.ep_exec.specs.declared.gathering.Gathering.{Gathering}
use Rattle.ep_exec.specs.declared.slices.Slices.{Slices}

-- a key with its value
abbrev Pair : Type 0
Pair = List ℕ × List ℕ

-- how many changes the first of these layers has
abbrev pub first_len : List (List Entry) → ℕ
first_len [] = 0
first_len (l ∷ ls) = length l

-- what keys have once these layers are over m, of the first one the first n changes alone
abbrev pub with_rest : Contents → ℕ → List (List Entry) → Contents
with_rest m n [] = m
with_rest m n (l ∷ ls) = stacked (over m (take n l)) ls

-- with what isn't in the tree yet, the tree says what the layers say over the changes that it began with
abbrev pub IsGathering : List Entry → List (List Entry) → Gathering → Type 0
IsGathering since ls g = (m : Contents) → with_rest (over m g.tree.entries) g.left (drop g.done ls) ≡ stacked (over m since) ls

-- whether the first of these entries stands below the first of these changes
abbrev pub leads : List Pair → List Entry → Bool
leads [] ts = false
leads (e ∷ es) [] = true
leads (e ∷ es) (t ∷ ts) = is_lt (key_cmp e.0 t.0.items)

-- with what isn't merged yet, the items are the whole
abbrev pub IsMerging : List Pair → List Pair → Slices → Type 0
IsMerging whole base s = s.items.items ++ merged (drop s.place base) s.tree.entries ≡ whole

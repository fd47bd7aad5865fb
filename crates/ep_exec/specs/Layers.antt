-- Layers of changes over a map, the newest last.
use Rattle.std.specs.Prelude.{ℕ, ◌+◌, List, [], ◌∷◌, Option, Some, None, Vec, length, map}
use Rattle.std.specs.declared.sync.Arc.{Arc}
use Rattle.std.specs.Arc.{arc_value}
use Rattle.std.specs.Global.{Global}
use Rattle.std.specs.HashMap.{HashMap}
use Rattle.std.specs.Map.{lookup}
use Rattle.ep_rules.specs.OneMap.{Contents}
use Rattle.ep_space.specs.Index.{is_at}
use Rattle.ep_exec.specs.Table.{Entry, over}

-- changes, which several maps share
abbrev pub Layer : Type 0 → Type 0
Layer S = Arc (HashMap (Vec ℕ Global) (Option (List ℕ)) S) Global

-- the changes of each layer
abbrev pub layers_of : {S : Type 0} → List (Layer S) → List (List Entry)
layers_of {S = S} ls = map (λ (l : Layer S). (arc_value l).entries) ls

-- what is said of a key, or else what it has
abbrev pub said_or : Option (Option (List ℕ)) → Option (List ℕ) → Option (List ℕ)
said_or None v = v
said_or (Some o) v = o

-- what keys have: what the newest layer says that says something of a key, and of other keys what m says
abbrev pub stacked : Contents → List (List Entry) → Contents
stacked m [] = m
stacked m (l ∷ ls) = stacked (over m l) ls

-- what a layer says of a key, or else what is known already
abbrev pub reported_over : Option (Option (List ℕ)) → Option (Option (List ℕ)) → Option (Option (List ℕ))
reported_over None t = t
reported_over (Some o) t = Some o

-- what the newest layer says that says something of the key k, or else what is known already
abbrev pub reported_by : List ℕ → Option (Option (List ℕ)) → List (List Entry) → Option (Option (List ℕ))
reported_by k t [] = t
reported_by k t (l ∷ ls) = reported_by k (reported_over (lookup (is_at k) l) t) ls

-- how many changes there are in all
abbrev pub changes_in : List (List Entry) → ℕ
changes_in [] = 0
changes_in (l ∷ ls) = length l + changes_in ls

-- Finite maps from instances, which definitions see as numbers in their order. Two maps with the same look-ups are one map.
use Rattle.std.specs.Prelude.{ℕ, List, Option}
use Rattle.std.specs.Ordering.{nat_cmp}
use Rattle.std.specs.FinMap as map

abbrev pub Map : Type 0 → Type 0
Map X = map.FinMap nat_cmp X

abbrev pub none : {X : Type 0} → Map X
none {X} = map.empty

abbrev pub get : {X : Type 0} → Map X → ℕ → Option X
get m i = map.get m i

abbrev pub insert : {X : Type 0} → Map X → ℕ → X → Map X
insert m i x = map.insert m i x

abbrev pub remove : {X : Type 0} → Map X → ℕ → Map X
remove m i = map.remove m i

-- what it has, in rising order of instances
abbrev pub entries : {X : Type 0} → Map X → List (ℕ × X)
entries m = map.entries m

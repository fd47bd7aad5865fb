-- Why a key isn't taken among the contents of a map.
use Rattle.std.specs.Prelude.{◌≡◌, ℕ, List, [], ◌∷◌, ◌++◌, false}
use Rattle.std.specs.FinMap.{entries, is_sorted}
use Rattle.ep_rules.specs.OneMap.{Contents}
use Rattle.ep_exec.specs.Table.{key_cmp}
use Rattle.ep_exec.specs.declared.contents_fault.ContentsFault.{ContentsFault}
use Rattle.ep_exec.specs.declared.contents_fault.ContentsFault.TheVariants.{Memory, NotAbove, OutOfRange}

-- out of memory, or the keys wouldn't rise strictly with this one at their end
abbrev pub IsNotTaken : Contents → List ℕ → List ℕ → ContentsFault → Type 0
IsNotTaken m k v Memory = Unit {0}
IsNotTaken m k v OutOfRange = ⊥
IsNotTaken m k v NotAbove = is_sorted key_cmp (entries m ++ (k, v) ∷ []) ≡ false

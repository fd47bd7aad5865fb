-- The keys of an opening, as a set.
use Rattle.std.specs.Prelude.{◌≡◌, ℕ, List, Vec}
use Rattle.std.specs.BTreeSet.{BTreeSet, contains}
use Rattle.std.specs.Cmp.Lexicographic.{slice_cmp}
use Rattle.std.specs.Global.{Global}
use Rattle.std.specs.Ordering.{nat_cmp}
use Rattle.std.specs.declared.cmp.Ordering.{Ordering}
use Rattle.ep_script.specs.Heads.{has_key_of}

abbrev pub name_cmp : Vec ℕ Global → Vec ℕ Global → Ordering
name_cmp x y = slice_cmp nat_cmp x.items y.items

-- the set has the key of an entry exactly if one of these is of it
abbrev pub HasKeys : BTreeSet (Vec ℕ Global) → List (List ℕ × List ℕ) → Type 0
HasKeys keys entries = (name : Vec ℕ Global) (value : List ℕ) → contains name_cmp keys name ≡ has_key_of (name.items, value) entries

-- A table of keys, each with a value or with none, as one map.
use Rattle.std.specs.Prelude.{◌≡◌, ℕ, Bool, true, List, [], ◌∷◌, Option, Some, None, Vec, is_some, refl}
use Rattle.std.specs.Global.{Global}
use Rattle.std.specs.Coded.{Coded, code_by, coded×, coded_list, coded_option, coded_ℕ}
use Rattle.std.specs.FinMap as map
use Rattle.std.specs.Map.{lookup}
use Rattle.std.specs.Ordering.{nat_cmp}
use Rattle.std.specs.Cmp.Lexicographic.{slice_cmp}
use Rattle.std.specs.declared.cmp.Ordering.{Ordering}
use Rattle.ep_rules.specs.OneMap.{Contents, with_key, Store}
use Rattle.ep_space.specs.Index.{is_at}

-- keys by their bytes, a key before the longer ones that begin with it
abbrev pub key_cmp : List ℕ → List ℕ → Ordering
key_cmp = slice_cmp nat_cmp

abbrev pub contents_code : Coded Contents
contents_code = map.code (coded_list coded_ℕ) (coded_list coded_ℕ)

abbrev pub store_code : Coded Store
store_code = code_by (Contents × Option (List ℕ)) (coded× contents_code (coded_option (coded_list coded_ℕ))) (λ s. (s.contents, s.seal)) (λ p. record { contents = p.0; seal = p.1 }) (λ _. refl)

-- the seal of before, or else that of since
abbrev pub first_of : Option (List ℕ) → Option (List ℕ) → Option (List ℕ)
first_of None since = since
first_of (Some v) since = Some v

-- a key, with its value or with a place alone
abbrev pub Entry : Type 0
Entry = Vec ℕ Global × Option (List ℕ)

-- what keys have: what these entries say, and of other keys what m says
abbrev pub over : Contents → List Entry → Contents
over m [] = m
over m (e ∷ es) = with_key (over m es) e.0.items e.1

-- the key has an entry, with a value or with none
abbrev pub has_place : List Entry → List ℕ → Bool
has_place es k = is_some (lookup (is_at k) es)

-- the map with each of these put back, the last one first
abbrev pub restored : List Entry → Contents → Contents
restored [] m = m
restored (u ∷ us) m = with_key (restored us m) u.0.items u.1

-- each key that is to be put back has a place
abbrev pub HavePlaces : List Entry → List Entry → Type 0
HavePlaces es [] = Unit {0}
HavePlaces es (u ∷ us) = (has_place es u.0.items ≡ true) × HavePlaces es us

-- Keys that have the same in two maps.
use Rattle.std.specs.Prelude.{ℕ, Bool, true, ◌&&◌, List, [], ◌∷◌}
use Rattle.ep_base.specs.Sameness.{same_option}
use Rattle.ep_rules.specs.OneMap.{Contents, value_at}
use Rattle.ep_exec.specs.Table.{Entry}

-- the key has the same in both
abbrev pub is_same_at : Contents → Contents → List ℕ → Bool
is_same_at m n k = same_option (value_at m k) (value_at n k)

-- each of these keys
abbrev pub agree_at : Contents → Contents → List (List ℕ × List ℕ) → Bool
agree_at m n [] = true
agree_at m n (e ∷ es) = is_same_at m n e.0 && agree_at m n es

-- each key of these changes
abbrev pub agree_by : Contents → Contents → List Entry → Bool
agree_by m n [] = true
agree_by m n (e ∷ es) = is_same_at m n e.0.items && agree_by m n es

-- each key of these layers
abbrev pub agree_in : Contents → Contents → List (List Entry) → Bool
agree_in m n [] = true
agree_in m n (l ∷ ls) = agree_by m n l && agree_in m n ls

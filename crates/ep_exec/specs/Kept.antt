-- What a replica has executed, and the room that is left.
use Rattle.std.specs.Prelude.{ℕ, ◌<◌, ◌≤◌, List, length, refl}
use Rattle.std.specs.Coded.{Coded, code_by, coded×, coded_list, coded_ℕ}
use Rattle.std.specs.List.{AllByRecursion}
use Rattle.ep_space.specs.Entries.{slot}

-- the instances, in order, how many more can be added with no need of memory, and below which slot
pub record Kept : Type 0 where
  pub list : List ℕ
  pub room : ℕ
  pub marks : ℕ

abbrev pub kept_code : Coded Kept
kept_code =
    code_by (List ℕ × (ℕ × ℕ)) (coded× (coded_list coded_ℕ) (coded× coded_ℕ coded_ℕ)) (λ k. (k.list, (k.room, k.marks))) (λ p. record { list = p.0; room = p.1.0; marks = p.1.1 }) (λ _. refl)

-- all of these can be added with no need of memory
pub record HasRoom (k : Kept) (is : List ℕ) : Type 0 where
  pub many : length is ≤ k.room
  pub slots : AllByRecursion (λ i. slot i < k.marks) is

-- The first bytes that a source gives.
use Rattle.std.specs.Prelude.{◌≡◌, ℕ, ◌<◌, List, [], ◌++◌, length, take, Option, Some}

-- of the bytes zs the buffer has the first n, and the source has the rest; they are fewer than the buffer is long only where there are no more
pub record Gathers (n : ℕ) (zs buf : List ℕ) (left : Option (List ℕ)) : Type 0 where
  pub rest : List ℕ
  pub left_is : left ≡ Some rest
  pub bytes : zs ≡ take n buf ++ rest
  pub all : n < length buf → rest ≡ []

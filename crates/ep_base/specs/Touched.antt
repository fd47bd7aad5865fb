-- What an opaque command touches: one key or two, and whether it only reads them.
use Rattle.std.specs.Prelude.{ℕ, List, Option, Bool}

pub record Touched : Type 0 where
  pub first : List ℕ
  pub second : Option (List ℕ)
  pub reads : Bool

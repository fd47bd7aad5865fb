-- Two keys, in order.
use Rattle.std.specs.Prelude.{ℕ, List}

pub record TwoKeys : Type 0 where
  pub first : List ℕ
  pub second : List ℕ

-- Where two lists differ first.
use Rattle.std.proofs.Common.{◌≡◌, ◌≤◌, ◌+◌, ◌-◌, ℕ, Bool, List, length, drop, length-drop, arith}
use Rattle.std.proofs.lemmas.List.Sums.{common_prefix_len-le}
use Rattle.std.specs.Prelude.{min}
use Rattle.std.specs.List.{common_prefix_len}

module _ {X : Type 0} (e : X → X → Bool) (xs ys : List X) (n : ℕ) where
  -- the first n are the same, and then those that are in what is left
  abbrev pub CountsFrom : Type 0
  CountsFrom = common_prefix_len e xs ys ≡ n + common_prefix_len e (drop n xs) (drop n ys)

  -- nothing is left of the shorter one
  pub ended : min (length xs) (length ys) ≤ n → CountsFrom → n ≡ common_prefix_len e xs ys
  ended over front =
      let both = common_prefix_len-le e (drop n xs) (drop n ys) in
      let one : length (drop n xs) ≡ length xs - n = length-drop n xs in
      let other : length (drop n ys) ≡ length ys - n = length-drop n ys in
      omega (arith, both.0, both.1, one, other, over, front)

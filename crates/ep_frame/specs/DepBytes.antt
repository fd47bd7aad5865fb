-- The bytes of dependencies.
use Rattle.std.specs.Prelude.{ℕ, ◌≡◌, ◌*◌, List, length, drop}
use Rattle.ep_base.specs.Deps.{IsDeps}
use Rattle.ep_frame.specs.Fields.{header_at, deps_in}
use Rattle.ep_frame.specs.Faults.{deps_place}

-- three bytes to each of a set of instances, in rising order
pub record AreDepBytes (b : List ℕ) : Type 0 where
  pub whole : length b ≡ 3 * length (deps_in b)
  pub deps : IsDeps (deps_in b)

-- the dependencies of a frame: all that stands after the body
abbrev pub deps_at : List ℕ → List ℕ
deps_at b = deps_in (drop (deps_place (header_at b)) b)

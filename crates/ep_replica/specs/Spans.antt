-- Numbers between two bounds.
use Rattle.std.specs.Prelude.{◌≤◌, ◌<◌, ℕ}
use Rattle.ep_replica.specs.declared.span.Span.{Span}

abbrev pub IsWithin : Span → ℕ → Type 0
IsWithin s n = (s.first ≤ n) × (n < s.end)

-- The numbers of generations, which are those of version 3.
use Rattle.std.specs.Prelude.{ℕ, ◌≤◌}
use Rattle.ep_base.specs.declared.version_kind.VersionKind.{VersionKind}
use Rattle.ep_base.specs.declared.version_kind.VersionKind.TheVariants.{V1, V2, V3}

abbrev pub IsGeneration : ℕ → Type 0
IsGeneration g = (1 ≤ g) × (g ≤ 4294967295)

-- a generation of version 3 is one; the others have none
abbrev pub HasItsGeneration : VersionKind → Type 0
HasItsGeneration V1 = Unit {0}
HasItsGeneration V2 = Unit {0}
HasItsGeneration (V3 g) = IsGeneration g

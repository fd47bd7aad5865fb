-- How long a value may be, and a command's body. Versions 1 and 2 have shorter ones: see Versions.
use Rattle.std.specs.Prelude.{ℕ}

abbrev pub most_value : ℕ
most_value = 65535

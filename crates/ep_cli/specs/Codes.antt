-- The exit statuses.
use Rattle.std.specs.Prelude.{ℕ}
use Rattle.ep_cli.specs.declared.status.Status.{Status}
use Rattle.ep_cli.specs.declared.status.Status.TheVariants.{Done, AuditRefused, Refused, OutOfMemory, Failed}

abbrev pub code_of : Status → ℕ
code_of Done = 0
code_of AuditRefused = 1
code_of Refused = 2
code_of OutOfMemory = 3
code_of Failed = 4

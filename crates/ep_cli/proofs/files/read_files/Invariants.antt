use Rattle.std.proofs.Common.{◌≡◌, length}
use Rattle.ep_cli.proofs.files.read_files.Given as goal

abbrev pub invariant-loop-name : goal.invariant-loop-name
invariant-loop-name g l = length l.files.items ≡ l.name-index

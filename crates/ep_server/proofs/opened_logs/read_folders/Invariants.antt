use Rattle.std.proofs.Common.{◌≡◌, All, length}
use Rattle.ep_server.specs.NamedFiles.{IsNamedLog}
use Rattle.ep_server.proofs.opened_logs.read_folders.Given as goal

abbrev pub invariant-loop-place : goal.invariant-loop-place
invariant-loop-place g l = (length l.kept.items ≡ l.place) × All IsNamedLog l.kept.items

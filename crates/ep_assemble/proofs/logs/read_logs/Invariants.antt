use Rattle.std.proofs.Common.{take}
use Rattle.ep_assemble.specs.Logs.{AreRead, contents}
use Rattle.ep_assemble.proofs.logs.read_logs.Given as goal

abbrev pub invariant-loop-place : goal.invariant-loop-place
invariant-loop-place l = AreRead (contents (take l.place l.logs)) l.journals.items l.ends.items

use Rattle.std.proofs.Common.{take}
use Rattle.ep_base.specs.Quorums.{size}
use Rattle.ep_assemble.specs.Logs.{contents}
use Rattle.ep_assemble.specs.Receipts.{AreHeld}
use Rattle.ep_assemble.proofs.receipts.read_receipts.Given as goal

abbrev pub invariant-loop-place : goal.invariant-loop-place
invariant-loop-place l = AreHeld l.version (size l.cluster) (contents (take l.place l.files)) l.receipts.items l.ends.items

use Rattle.std.proofs.Common.{length}
use Rattle.ep_base.specs.Quorums.{size}
use Rattle.ep_assemble.proofs.Held.{Holding}
use Rattle.ep_assemble.proofs.receipts.push_receipts.Given as goal

abbrev pub invariant-loop-version : goal.invariant-loop-version
invariant-loop-version l = Holding l.version (size l.cluster) l.bytes l.fn.receipts.items l.receipts.items l.place l.source.inner.now

abbrev pub decreases-loop-version : goal.decreases-loop-version
decreases-loop-version l = length l.source.inner.now

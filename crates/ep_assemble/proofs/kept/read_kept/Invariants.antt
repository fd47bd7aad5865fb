use Rattle.std.proofs.Common.{take}
use Rattle.ep_assemble.specs.Generations.{AreKept}
use Rattle.ep_assemble.proofs.kept.read_kept.Given as goal

abbrev pub invariant-loop-place : goal.invariant-loop-place
invariant-loop-place l = AreKept l.cluster (take l.place l.kept) l.journals.items l.ends.items

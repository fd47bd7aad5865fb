use Rattle.std.proofs.Common.{take, All}
use Rattle.ep_assemble.specs.Clusters.{IsMember}
use Rattle.ep_assemble.proofs.checking.other_place.Given as goal

abbrev pub invariant-loop-place : goal.invariant-loop-place
invariant-loop-place l = All (IsMember l.version l.opening l.cluster) (take l.place l.journals)

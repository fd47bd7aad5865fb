use Rattle.std.proofs.Common.{take, All}
use Rattle.ep_assemble.specs.Generations.{IsLike}
use Rattle.ep_assemble.proofs.openings.first_other.Given as goal

abbrev pub invariant-loop-place : goal.invariant-loop-place
invariant-loop-place l = All (IsLike l.generation l.first) (take l.place l.files)

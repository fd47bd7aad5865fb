use Rattle.std.proofs.Common.{take}
use Rattle.ep_assemble.specs.Generations.{AreFiles}
use Rattle.ep_assemble.proofs.openings.read_openings.Given as goal

abbrev pub invariant-loop-place : goal.invariant-loop-place
invariant-loop-place l = AreFiles (take l.place l.kept) l.files.items

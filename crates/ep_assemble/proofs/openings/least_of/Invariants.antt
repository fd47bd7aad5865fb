use Rattle.std.proofs.Common.{◌≡◌, drop}
use Rattle.ep_assemble.specs.Generations.{least_since}
use Rattle.ep_assemble.proofs.openings.least_of.Given as goal

abbrev pub invariant-loop-file : goal.invariant-loop-file
invariant-loop-file l = least_since l.least (drop l.file-index l.files) ≡ least_since l.base_stamp l.files

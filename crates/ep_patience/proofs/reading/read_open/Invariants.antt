use Rattle.std.proofs.Common.{◌≡◌, length}
use Rattle.ep_patience.proofs.OpenRead.{joined}
use Rattle.ep_patience.specs.OpenBytes.{open_from, open_list}
use Rattle.ep_patience.proofs.reading.read_open.Given as goal

abbrev pub invariant-loop-rest : goal.invariant-loop-rest
invariant-loop-rest l = joined l.seen.items (open_from l.last l.rest) ≡ open_list l.bytes

abbrev pub decreases-loop-rest : goal.decreases-loop-rest
decreases-loop-rest l = length l.rest

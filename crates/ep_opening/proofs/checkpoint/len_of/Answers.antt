use Rattle.std.proofs.Common.{length, ap, arith}
use Rattle.ep_opening.proofs.Short.{pair_short}
use Rattle.ep_opening.proofs.checkpoint.len_of.Goals as goal

pub returns-clause-bound : goal.returns-clause-bound
returns-clause-bound c = pair_short (length c.as_slice.result.now) c.len.result (omega (arith, ap length c.as_slice.ensures.value, c.as_slice.ensures.in_range.1)) c.len.ensures.in_range

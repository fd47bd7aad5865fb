use Rattle.std.proofs.Common.{arith}
use Rattle.ep_opening.proofs.Short.{tail_short}
use Rattle.ep_opening.proofs.checkpoint.last_piece.Goals as goal

pub returns-clause-short : goal.returns-clause-short
returns-clause-short c = tail_short c.executed-executed.result.now c.in_ok-bytes.bytes.items c.in_ok-bytes.ensures (omega (arith, c.len-many.ensures.value, c.len-many.ensures.bound)) c.args.most

use Rattle.ep_opening.proofs.Short.{head_short}
use Rattle.ep_opening.proofs.checkpoint.first_piece.Goals as goal

pub returns-clause-short : goal.returns-clause-short
returns-clause-short c = head_short c.args.file.now c.in_ok-bytes.bytes.items c.in_ok-bytes.ensures c.learn_seal.ensures.short c.args.most

use Rattle.ep_rules.proofs.Interleaved.{one_reply_lem}
use Rattle.ep_rules.proofs.history.one_reply.Goals as goal

pub returns : goal.returns
returns c = one_reply_lem

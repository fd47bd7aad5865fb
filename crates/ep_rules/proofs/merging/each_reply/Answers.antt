use Rattle.ep_rules.proofs.JournalsReplies.{each_reply_lem}
use Rattle.ep_rules.proofs.merging.each_reply.Goals as goal

pub returns : goal.returns
returns c = each_reply_lem

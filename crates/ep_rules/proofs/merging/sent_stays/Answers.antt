use Rattle.ep_rules.proofs.OwnReceipts.{sent_stays_lem}
use Rattle.ep_rules.proofs.merging.sent_stays.Goals as goal

pub returns : goal.returns
returns c = sent_stays_lem

use Rattle.ep_rules.proofs.OwnReceipts.{own_receipts_agree_lem}
use Rattle.ep_rules.proofs.merging.own_receipts_agree.Goals as goal

pub returns : goal.returns
returns c = own_receipts_agree_lem

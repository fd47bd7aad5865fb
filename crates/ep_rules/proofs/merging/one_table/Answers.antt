use Rattle.ep_rules.proofs.OneTable.{one_table_lem}
use Rattle.ep_rules.proofs.merging.one_table.Goals as goal

pub returns : goal.returns
returns c = one_table_lem

use Rattle.ep_rules.proofs.OneProposal.{proposals_report_lem}
use Rattle.ep_rules.proofs.merging.proposals_report.Goals as goal

pub returns : goal.returns
returns c = proposals_report_lem

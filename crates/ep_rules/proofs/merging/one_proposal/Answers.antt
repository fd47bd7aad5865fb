use Rattle.ep_rules.proofs.OneProposal.{one_proposal_lem}
use Rattle.ep_rules.proofs.merging.one_proposal.Goals as goal

pub returns : goal.returns
returns c = one_proposal_lem

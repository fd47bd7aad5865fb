use Rattle.ep_node.proofs.Learnt.{commits_are_reported_lem}
use Rattle.ep_node.proofs.ready_laws.commits_are_reported.Goals as goal

pub returns : goal.returns
returns c = commits_are_reported_lem

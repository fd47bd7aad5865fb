use Rattle.ep_node.proofs.LifeChains.{crashing_lives_are_chains_lem}
use Rattle.ep_node.proofs.crash_law.crashing_lives_are_chains.Goals as goal

pub returns : goal.returns
returns c = crashing_lives_are_chains_lem

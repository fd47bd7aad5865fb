use Rattle.ep_audit.proofs.Upgraded.{upgraded_says_the_same_lem}
use Rattle.ep_audit.proofs.upgrade_law.upgraded_says_the_same.Goals as goal

pub returns : goal.returns
returns c = upgraded_says_the_same_lem

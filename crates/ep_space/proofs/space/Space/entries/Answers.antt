use Rattle.std.proofs.Common.{subst}
use Rattle.ep_space.specs.Open.{AreRecords}
use Rattle.ep_space.specs.Records.{Records}
use Rattle.ep_space.proofs.space.Space.entries.Goals as goal

pub returns : goal.returns
returns c = subst (λ (s : Records). AreRecords s.records c.entries.result.now) c.self.view_is c.entries.ensures

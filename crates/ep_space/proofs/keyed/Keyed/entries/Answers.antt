use Rattle.std.proofs.Common.{subst}
use Rattle.ep_space.specs.Indexed.{Indexed}
use Rattle.ep_space.specs.Open.{AreRecords}
use Rattle.ep_space.proofs.keyed.Keyed.entries.Goals as goal

pub returns : goal.returns
returns c = subst (λ (x : Indexed). AreRecords x.held c.entries.result.now) c.self.view_is (λ i r. c.entries.ensures i r)

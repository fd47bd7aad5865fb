use Rattle.ep_base.specs.Attributes.{same_list}
use Rattle.ep_space.specs.Index.{run, without}
use Rattle.ep_space.specs.Names.{named}
use Rattle.ep_space.proofs.Bringing.{unless_stays, unless_goes}
use Rattle.std.proofs.Common.{◌∙◌}
use Rattle.ep_space.proofs.index.remove_unless.Goals as goal

pub returns-then-stays : goal.returns-then-stays
returns-then-stays c = λ k. unless_stays (same_list k (named c.args.name)) c.args.stays (without c.args.id) (run c.args.index.now k) c.if-stays.true

pub returns : goal.returns
returns c = λ k. c.remove.ensures k ∙ unless_goes (same_list k (named c.args.name)) c.args.stays (without c.args.id) (run c.args.index.now k) c.if-stays.false

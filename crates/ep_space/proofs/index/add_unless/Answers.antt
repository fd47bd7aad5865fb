use Rattle.std.proofs.Common.{◌∙◌}
use Rattle.ep_base.specs.Attributes.{same_list}
use Rattle.ep_space.specs.Index.{run, with_instance}
use Rattle.ep_space.specs.Names.{named}
use Rattle.ep_space.proofs.Bringing.{unless_stays, unless_goes}
use Rattle.ep_space.proofs.index.add_unless.Goals as goal

pub returns-then-stays-clause-runs : goal.returns-then-stays-clause-runs
returns-then-stays-clause-runs c = λ k. unless_stays (same_list k (named c.args.name)) c.args.stays (with_instance c.args.id) (run c.args.index.now k) c.if-stays.true

pub returns-clause-runs : goal.returns-clause-runs
returns-clause-runs c = λ k. c.add.ensures.runs k ∙ unless_goes (same_list k (named c.args.name)) c.args.stays (with_instance c.args.id) (run c.args.index.now k) c.if-stays.false

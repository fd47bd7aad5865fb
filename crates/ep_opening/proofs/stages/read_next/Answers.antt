use Rattle.ep_bundle.proofs.Readings.{fails}
use Rattle.ep_opening.proofs.Above.{is_above, is_not_above}
use Rattle.ep_opening.proofs.Steps.{is_positive, not_so}
use Rattle.ep_opening.proofs.stages.read_next.Goals as goal

pub returns-in_err-instance-clause-bytes : goal.returns-in_err-instance-clause-bytes
returns-in_err-instance-clause-bytes g c = λ y0 e0. fails _ _ _ _ _ _ _ _ (c.in_err-instance.ensures y0 e0) c.from_residual.ensures.1

pub returns-then-not-pushed-clause-bytes : goal.returns-then-not-pushed-clause-bytes
returns-then-not-pushed-clause-bytes g c = λ zs h.
    is_not_above c.args.generation c.args.executed.now (record { at = c.args.place.now; bytes = zs }) c.in_ok-instance.instance c.read_one.new.place c.read_one.new.place (g.S.Source.left c.read_one.new.source) (g.S.Source.left c.read_one.new.source)
    (c.in_ok-instance.ensures zs h) c.learn_rising.ensures (not_so c.in_ok-pushed.pushed c.if-not-pushed.true c.in_ok-pushed.ensures.pushed)

pub returns-clause-bytes : goal.returns-clause-bytes
returns-clause-bytes g c = λ zs h.
    is_above c.args.generation c.args.executed.now (record { at = c.args.place.now; bytes = zs }) c.in_ok-instance.instance c.read_one.new.place (g.S.Source.left c.read_one.new.source)
    (c.in_ok-instance.ensures zs h) (is_positive c.in_ok-instance.instance c.learn_instance.ensures) (c.in_ok-pushed.ensures.pushed.0 c.if-not-pushed.false)

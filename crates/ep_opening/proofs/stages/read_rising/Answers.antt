use Rattle.ep_opening.proofs.Above.{none_climbed, one_climbed, none_above, all_climbed}
use Rattle.ep_opening.proofs.stages.read_rising.Goals as goal

pub loop-init : goal.loop-init
loop-init g c = none_climbed c.args.generation c.args.count c.new-executed.result c.args.place.now (g.S.Source.left c.args.source.now) c.new-executed.ensures

pub returns-in_err-read_next : goal.returns-in_err-read_next
returns-in_err-read_next g c = λ y0 e0.
    none_above c.args.generation c.args.count c.loop.counter c.loop.executed c.in_err-read_next.field-0.0 _ c.args.place.now c.loop.place c.read_next.new.place (g.S.Source.left c.args.source.now) (g.S.Source.left c.loop.source) (g.S.Source.left c.read_next.new.source)
    c.loop-test.true c.loop.invariant (λ ys k. c.in_err-read_next.ensures.bytes ys k) c.from_residual.ensures.1 y0 e0

pub loop-preserved : goal.loop-preserved
loop-preserved g c =
    one_climbed c.args.generation c.args.count c.loop.counter c.loop.executed c.read_next.new.executed c.in_ok-read_next.field-0 c.args.place.now c.loop.place c.read_next.new.place (g.S.Source.left c.args.source.now) (g.S.Source.left c.loop.source) (g.S.Source.left c.read_next.new.source)
    c.loop-test.true c.loop.invariant (λ ys k. c.in_ok-read_next.ensures.bytes ys k) c.in_ok-read_next.ensures.one

pub returns : goal.returns
returns g c = λ y0 e0. all_climbed c.args.generation c.args.count c.loop.counter c.loop.executed c.args.place.now c.loop.place (g.S.Source.left c.args.source.now) (g.S.Source.left c.loop.source) c.loop-test.false c.loop.invariant y0 e0

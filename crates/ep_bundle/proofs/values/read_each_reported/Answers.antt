use Rattle.std.proofs.Common.{◌≡◌, ◌+◌, ◌∷◌, [], length, length-append, refl, ap, ◌∙◌}
use Rattle.ep_bundle.specs.Stages.{one_reported}
use Rattle.ep_bundle.proofs.Journeys.{mapped}
use Rattle.ep_bundle.proofs.Loops.{begins, steps, fails_in, finishes}
use Rattle.ep_bundle.proofs.values.read_each_reported.Goals as goal

pub loop-init : goal.loop-init
loop-init g c = record {
  bytes = begins (one_reported c.args.version) c.args.count c.new-values.result.items _ _ c.new-values.ensures.items;
  long = ap length c.new-values.ensures.items;
  reported = refl;
}

pub returns-in_err-value-clause-bytes : goal.returns-in_err-value-clause-bytes
returns-in_err-value-clause-bytes g c = λ y0 e0. fails_in _ _ _ _ _ _ _ _ _ _ _ _ c.loop-test.true c.loop.invariant.bytes (λ ys k. c.in_err-value.ensures.bytes ys k) (mapped _ _ _ c.from_residual.ensures.1) y0 e0

pub loop-preserved : goal.loop-preserved
loop-preserved g c = record {
  bytes = steps (one_reported c.args.version) c.args.count c.loop.counter c.loop.values.items c.push.new.self.items c.in_ok-value.value _ _ _ _ _ _ c.loop-test.true c.loop.invariant.bytes (λ ys k. c.in_ok-value.ensures.bytes ys k) c.in_ok-push.ensures.items;
  long = ap length c.in_ok-push.ensures.items ∙ length-append c.loop.values.items (c.in_ok-value.value ∷ []) ∙ ap (λ n. n + 1) c.loop.invariant.long;
  reported = c.in_ok-value.ensures.reported ∙ c.loop.invariant.reported;
}

pub returns-clause-bytes : goal.returns-clause-bytes
returns-clause-bytes g c = λ y0 e0. finishes _ _ _ _ _ _ _ _ c.loop-test.false c.loop.invariant.bytes y0 e0

use Rattle.std.proofs.Common.{refl, ◌∙◌}
use Rattle.ep_base.specs.Quorums.{size}
use Rattle.ep_bundle.specs.Stages.{receipt}
use Rattle.ep_bundle.proofs.Journeys.{mapped}
use Rattle.ep_bundle.proofs.Loops.{begins, steps, fails_in, finishes}
use Rattle.ep_bundle.proofs.receipts.read_receipts.Goals as goal

pub loop-init : goal.loop-init
loop-init g c = record {
  bytes = begins (receipt c.args.dialect.now.version (size c.args.dialect.now.size)) c.args.count c.new-receipts.result.items _ _ c.new-receipts.ensures.items;
  reported = refl;
}

pub returns-in_err-receipt-clause-bytes : goal.returns-in_err-receipt-clause-bytes
returns-in_err-receipt-clause-bytes g c = λ y0 e0. fails_in _ _ _ _ _ _ _ _ _ _ _ _ c.loop-test.true c.loop.invariant.bytes (λ ys k. c.in_err-receipt.ensures.bytes ys k) (mapped _ _ _ c.from_residual.ensures.1) y0 e0

pub loop-preserved : goal.loop-preserved
loop-preserved g c = record {
  bytes = steps (receipt c.args.dialect.now.version (size c.args.dialect.now.size)) c.args.count c.loop.counter c.loop.receipts.items c.push.new.self.items c.in_ok-receipt.receipt _ _ _ _ _ _ c.loop-test.true c.loop.invariant.bytes (λ ys k. c.in_ok-receipt.ensures.bytes ys k) c.in_ok-push.ensures.items;
  reported = c.in_ok-receipt.ensures.reported ∙ c.loop.invariant.reported;
}

pub returns-clause-bytes : goal.returns-clause-bytes
returns-clause-bytes g c = λ y0 e0. finishes _ _ _ _ _ _ _ _ c.loop-test.false c.loop.invariant.bytes y0 e0

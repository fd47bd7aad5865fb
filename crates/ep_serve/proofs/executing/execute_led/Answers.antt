use Rattle.std.proofs.Common.{◌∙◌, refl, arith}
use Rattle.ep_serve.proofs.Sweeping.{at_error, led_all, led_next, led_none, led_short, led_stops, some_next, some_none}
use Rattle.ep_serve.proofs.executing.execute_led.Goals as goal

pub loop-number-init : goal.loop-number-init
loop-number-init g c = record { same = refl; some = some_none c.args.node.now.replica; wait = led_none c.args.leader c.args.node.now.replica }

pub returns-then-not-tried-clause-ok : goal.returns-then-not-tried-clause-ok
returns-then-not-tried-clause-ok g c =
    led_stops c.args.node.now.replica c.loop-number.node.replica c.try_one.new.node.replica c.args.leader c.instance_at.result c.in_ok-tried.tried c.if-not-tried.true c.loop-number.invariant.some c.in_ok-tried.ensures.ok

pub loop-number-preserved : goal.loop-number-preserved
loop-number-preserved g c = record {
  same = c.try_one.ensures.same ∙ (λ t. record (c.loop-number.invariant.same t) { replica = c.try_one.new.node.replica });
  some = some_next c.args.node.now.replica c.loop-number.node.replica c.try_one.new.node.replica c.instance_at.result c.in_ok-tried.tried c.loop-number.invariant.some c.in_ok-tried.ensures.ok;
  wait = led_next c.args.leader c.loop-number.number c.instance_at.result c.loop-number.node.replica c.try_one.new.node.replica c.in_ok-tried.tried c.if-not-tried.false c.instance_at.ensures c.in_ok-tried.ensures.ok c.loop-number.invariant.wait;
}

pub returns-clause-ok : goal.returns-clause-ok
returns-clause-ok g c =
    led_all c.args.node.now.replica c.loop-number.node.replica c.args.leader c.loop-number.number (λ i r is. let low = c.highest-top.ensures.all i r is in let past = c.loop-number-test.false in omega (arith, low, past)) c.loop-number.invariant.some c.loop-number.invariant.wait

pub returns-in_err-tried-clause-err : goal.returns-in_err-tried-clause-err
returns-in_err-tried-clause-err g c =
    let low = c.loop-number-test.true in
    let most = c.highest-top.ensures.bounded in
    at_error _ (led_short c.args.node.now.replica c.loop-number.node.replica c.try_one.new.node.replica c.args.leader c.loop-number.number c.instance_at.result c.instance_at.ensures c.loop-number.invariant.some c.loop-number.invariant.wait c.in_err-tried.ensures.err (omega (arith, low, most)))

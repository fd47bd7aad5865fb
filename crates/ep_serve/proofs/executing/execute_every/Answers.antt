use Rattle.std.proofs.Common.{◌∙◌, refl, arith}
use Rattle.ep_serve.proofs.Sweeping.{at_error, all_none, every_all, every_next, every_short, every_stops, some_none}
use Rattle.ep_serve.proofs.executing.execute_every.Goals as goal

pub loop-index-init : goal.loop-index-init
loop-index-init g c = record { same = refl; some = some_none c.args.node.now.replica; wait = all_none c.args.node.now.replica }

pub returns-then-not-swept-clause-ok : goal.returns-then-not-swept-clause-ok
returns-then-not-swept-clause-ok g c =
    every_stops c.args.node.now.replica c.loop-index.node.replica c.execute_led.new.node.replica c.from_valid.result c.in_ok-swept.swept c.if-not-swept.true c.loop-index.invariant.some c.in_ok-swept.ensures.ok

pub loop-index-preserved : goal.loop-index-preserved
loop-index-preserved g c =
    let next = every_next c.args.node.now.replica c.loop-index.node.replica c.execute_led.new.node.replica c.loop-index.index c.from_valid.result c.in_ok-swept.swept c.if-not-swept.false c.from_valid.ensures c.loop-index.invariant.some c.loop-index.invariant.wait c.in_ok-swept.ensures.ok in
    record {
      same = c.execute_led.ensures.same ∙ (λ t. record (c.loop-index.invariant.same t) { replica = c.execute_led.new.node.replica });
      some = next.0;
      wait = next.1;
    }

pub returns-clause-ok : goal.returns-clause-ok
returns-clause-ok g c = every_all c.args.node.now.replica c.loop-index.node.replica c.loop-index.index (let past = c.loop-index-test.false in omega arith) c.loop-index.invariant.some c.loop-index.invariant.wait

pub returns-in_err-swept-clause-err : goal.returns-in_err-swept-clause-err
returns-in_err-swept-clause-err g c =
    at_error _ (every_short c.args.node.now.replica c.loop-index.node.replica c.execute_led.new.node.replica c.loop-index.index c.from_valid.result c.from_valid.ensures c.loop-index.invariant.some c.loop-index.invariant.wait c.in_err-swept.ensures.err)

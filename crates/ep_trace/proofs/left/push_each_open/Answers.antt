use Rattle.std.proofs.Common.{◌≡◌, ◌+◌, suc, arith}
use Rattle.ep_trace.proofs.Opening.{one_below}
use Rattle.ep_trace.proofs.left.push_each_open.Goals as goal

pub loop-replica-preserved : goal.loop-replica-preserved
loop-replica-preserved c =
    let next : c.loop-replica.replica + 1 ≡ suc c.loop-replica.replica = omega arith in
    one_below c.args.world.now c.loop-replica.replica (c.loop-replica.replica + 1) c.args.text.now.items c.loop-replica.text.items c.push_replica.new.text.items next c.loop-replica.invariant
    c.in_ok-push_replica.ensures

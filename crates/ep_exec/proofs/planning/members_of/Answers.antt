use Rattle.ep_exec.proofs.Nexts.{next_members}
use Rattle.ep_exec.proofs.planning.members_of.Goals as goal

pub loop-component-preserved : goal.loop-component-preserved
loop-component-preserved c =
    next_members c.args.found.now c.loop-component.component-index c.component-item.result c.loop-component.all.items c.append.new.list.items c.deref.result.now c.loop-component-test.true c.component-item.is c.deref.ensures.value c.in_ok-append.ensures c.loop-component.invariant

use Rattle.ep_explain.proofs.Reporting.{reported_none, reported_more}
use Rattle.ep_explain.proofs.explaining.push_faults.Goals as goal

pub loop-fault-init : goal.loop-fault-init
loop-fault-init c = reported_none c.args.found.now c.args.text.now.items

pub loop-fault-preserved : goal.loop-fault-preserved
loop-fault-preserved c =
    reported_more c.loop-fault.fault-index c.args.found.now c.fault-item.result c.args.text.now.items c.loop-fault.text.items c.push_fault.new.text.items
    c.loop-fault-test.true c.fault-item.is c.loop-fault.invariant c.in_ok-push_fault.ensures

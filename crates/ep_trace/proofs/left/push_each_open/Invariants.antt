use Rattle.ep_trace.proofs.Opening.{ReportedBelow}
use Rattle.ep_trace.proofs.left.push_each_open.Given as goal

abbrev pub invariant-loop-replica : goal.invariant-loop-replica
invariant-loop-replica l = ReportedBelow l.world l.replica l.initial.text.items l.text.items

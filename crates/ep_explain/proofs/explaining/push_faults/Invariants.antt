use Rattle.ep_explain.proofs.Reporting.{Reported}
use Rattle.ep_explain.proofs.explaining.push_faults.Given as goal

abbrev pub invariant-loop-fault : goal.invariant-loop-fault
invariant-loop-fault l = Reported l.fault-index l.found l.initial.text.items l.text.items

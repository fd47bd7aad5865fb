use Rattle.std.proofs.Common.{◌≡◌, ◌++◌}
use Rattle.ep_view.specs.TraceFiles.{processes}
use Rattle.ep_view.proofs.tracing.push_processes.Given as goal

abbrev pub invariant-loop-replica : goal.invariant-loop-replica
invariant-loop-replica l = l.text.items ≡ l.initial.text.items ++ processes l.replica

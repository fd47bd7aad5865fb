use Rattle.ep_node.proofs.CrashTraces.{crashes_leave_no_trace_lem}
use Rattle.ep_node.proofs.crash_law.crashes_leave_no_trace.Goals as goal

pub returns : goal.returns
returns c = crashes_leave_no_trace_lem

use Rattle.std.proofs.Common.{◌≡◌, ◌++◌, drop}
use Rattle.ep_audit.specs.Lines.{lines_of}
use Rattle.ep_audit.specs.Tables.{agreed_in}
use Rattle.ep_audit.proofs.history.add_executions.Given as goal

abbrev pub invariant-loop-execution : goal.invariant-loop-execution
invariant-loop-execution l = l.lines.items ++ lines_of (agreed_in l.journals) l.seen.list (drop l.execution-index l.done) ≡ l.fn.lines.items ++ lines_of (agreed_in l.journals) l.seen.list l.done

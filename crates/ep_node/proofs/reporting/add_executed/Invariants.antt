use Rattle.std.proofs.Common.{◌≡◌, ◌++◌, drop}
use Rattle.ep_rules.specs.Steps.{order_of}
use Rattle.ep_node.proofs.reporting.add_executed.Given as goal

-- whatever is left completes the whole
abbrev pub invariant-loop-done : goal.invariant-loop-done
invariant-loop-done l = l.executed.items ++ order_of (drop l.done-index l.entry.done) ≡ l.fn.executed.items ++ order_of l.entry.done

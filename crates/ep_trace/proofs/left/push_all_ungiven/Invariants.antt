use Rattle.std.proofs.Common.{◌≡◌, ◌++◌, drop}
use Rattle.ep_trace.specs.Left.{ungiven_lines}
use Rattle.ep_trace.proofs.left.push_all_ungiven.Given as goal

abbrev pub invariant-loop-message : goal.invariant-loop-message
invariant-loop-message l = l.text.items ++ ungiven_lines l.world (drop l.message-index l.messages) ≡ l.initial.text.items ++ ungiven_lines l.world l.messages

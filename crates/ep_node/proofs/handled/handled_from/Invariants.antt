use Rattle.std.proofs.Common.{◌≡◌, max, drop}
use Rattle.ep_node.specs.Handled.{handled_from}
use Rattle.ep_node.proofs.handled.handled_from.Given as goal

-- the greatest so far and that of what is left are that of the whole
abbrev pub invariant-loop-entry : goal.invariant-loop-entry
invariant-loop-entry l = max l.most (handled_from l.peer (drop l.entry-index l.entries)) ≡ handled_from l.peer l.entries

use Rattle.std.proofs.Common.{◌≡◌, ◌++◌, drop}
use Rattle.ep_view.specs.Lines.{more_done}
use Rattle.ep_view.proofs.lines.push_more_done.Given as goal

abbrev pub invariant-loop-one : goal.invariant-loop-one
invariant-loop-one l = l.text.items ++ more_done (drop l.one-index l.done) ≡ l.initial.text.items ++ more_done l.done

use Rattle.std.proofs.Common.{◌≡◌, ◌++◌, drop}
use Rattle.ep_view.specs.Handled.{is_in}
use Rattle.ep_view.specs.Lines.{more_sent}
use Rattle.ep_view.proofs.lines.push_more_sent.Given as goal

abbrev pub invariant-loop-frame : goal.invariant-loop-frame
invariant-loop-frame l = l.text.items ++ more_sent (is_in l.handled) l.words.items (drop l.frame-index l.frames) ≡ l.initial.text.items ++ more_sent (is_in l.handled) l.initial.words.items l.frames

use Rattle.std.proofs.Common.{◌≡◌, ◌++◌, drop}
use Rattle.ep_view.specs.Handled.{is_in}
use Rattle.ep_view.specs.Sequences.{lost_lines}
use Rattle.ep_view.proofs.sequence_lines.push_all_lost.Given as goal

abbrev pub invariant-loop-frame : goal.invariant-loop-frame
invariant-loop-frame l = l.text.items ++ lost_lines (is_in l.handled) l.replica (drop l.frame-index l.frames) ≡ l.initial.text.items ++ lost_lines (is_in l.handled) l.replica l.frames

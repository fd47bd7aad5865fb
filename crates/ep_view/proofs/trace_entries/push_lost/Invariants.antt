use Rattle.std.proofs.Common.{◌≡◌, ◌++◌, drop}
use Rattle.ep_view.specs.Handled.{is_in}
use Rattle.ep_view.specs.TraceEvents.{lost_text}
use Rattle.ep_view.proofs.trace_entries.push_lost.Given as goal

abbrev pub invariant-loop-frame : goal.invariant-loop-frame
invariant-loop-frame l = l.text.items ++ lost_text (is_in l.handled) l.replica l.entry (drop l.frame-index l.frames) ≡ l.initial.text.items ++ lost_text (is_in l.handled) l.replica l.entry l.frames

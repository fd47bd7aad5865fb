use Rattle.std.proofs.Common.{◌≡◌, ◌++◌, drop}
use Rattle.ep_trace.specs.Lines.{more_sent}
use Rattle.ep_trace.proofs.lines.push_more_sent.Given as goal

abbrev pub invariant-loop-frame : goal.invariant-loop-frame
invariant-loop-frame l = l.text.items ++ more_sent l.number l.words.items (drop l.frame-index l.frames) ≡ l.initial.text.items ++ more_sent l.initial.number l.initial.words.items l.frames

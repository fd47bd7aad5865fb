use Rattle.std.proofs.Common.{◌≡◌, ◌++◌, drop}
use Rattle.ep_node.proofs.reporting.add_frames.Given as goal

-- whatever is left completes the whole
abbrev pub invariant-loop-frame : goal.invariant-loop-frame
invariant-loop-frame l = l.frames.items ++ drop l.frame-index l.entry.frames ≡ l.fn.frames.items ++ l.entry.frames

use Rattle.std.proofs.Common.{◌≡◌, drop}
use Rattle.ep_view.specs.Kept.{sends_of}
use Rattle.ep_view.proofs.selection.sends_of.Given as goal

abbrev pub invariant-loop-frame : goal.invariant-loop-frame
invariant-loop-frame l = sends_of l.instances (drop l.frame-index l.frames) ≡ sends_of l.instances l.frames

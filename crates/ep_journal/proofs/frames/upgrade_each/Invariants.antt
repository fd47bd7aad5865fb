use Rattle.ep_frame.specs.Upgrading.{IsUpgradedFrame}
use Rattle.ep_journal.proofs.Pairs.{UpTo}
use Rattle.ep_journal.proofs.frames.upgrade_each.Given as goal

abbrev pub invariant-loop-frame : goal.invariant-loop-frame
invariant-loop-frame l = UpTo IsUpgradedFrame l.frame-index l.fn.frames l.frames

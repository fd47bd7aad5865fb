use Rattle.std.proofs.Common.{take}
use Rattle.ep_host.specs.HostFrames.{AreHostFrames}
use Rattle.ep_host.specs.Sent.{IsCopied}
use Rattle.ep_host.proofs.frames_out.copied.Given as goal

abbrev pub invariant-loop-frame : goal.invariant-loop-frame
invariant-loop-frame l = record { copied : IsCopied (take l.frame-index l.out) l.frames.items l.lost; version : AreHostFrames l.frames.items }

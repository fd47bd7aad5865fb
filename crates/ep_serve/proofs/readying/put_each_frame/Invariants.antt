use Rattle.std.proofs.Common.{take}
use Rattle.std.specs.List.{flat_map}
use Rattle.std.specs.Io.KnownBytes.{Appends}
use Rattle.ep_wire.specs.Answers.{sent_bytes}
use Rattle.ep_serve.proofs.readying.put_each_frame.Given as goal

abbrev pub invariant-loop-frame : goal.invariant-loop-frame
invariant-loop-frame g l = Appends (g.K.Sink.held l.initial.sink) (g.K.Sink.held l.sink) (flat_map sent_bytes (take l.frame-index l.frames))

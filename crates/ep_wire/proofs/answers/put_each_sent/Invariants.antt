use Rattle.ep_wire.specs.Answers.{sent_bytes}
use Rattle.ep_bundle.proofs.Puts.{Put}
use Rattle.ep_wire.proofs.answers.put_each_sent.Given as goal

abbrev pub invariant-loop-frame : goal.invariant-loop-frame
invariant-loop-frame g l = Put sent_bytes l.frame-index l.frames (g.K.Sink.held l.initial.sink) (g.K.Sink.held l.sink) (g.K.Sink.has_failed l.initial.sink) (g.K.Sink.has_failed l.sink)

use Rattle.ep_frame.specs.Fields.{dep_bytes}
use Rattle.ep_bundle.proofs.Puts.{Put}
use Rattle.ep_wire.proofs.reporting.put_each_instance.Given as goal

abbrev pub invariant-loop-instance : goal.invariant-loop-instance
invariant-loop-instance g l = Put dep_bytes l.instance-index l.instances (g.K.Sink.held l.initial.sink) (g.K.Sink.held l.sink) (g.K.Sink.has_failed l.initial.sink) (g.K.Sink.has_failed l.sink)

use Rattle.std.proofs.Common.{take}
use Rattle.std.specs.List.{flat_map}
use Rattle.std.specs.Io.KnownBytes.{Appends}
use Rattle.ep_serve.specs.Answering.{open_instance_bytes}
use Rattle.ep_serve.proofs.readying.put_each_open.Given as goal

abbrev pub invariant-loop-one : goal.invariant-loop-one
invariant-loop-one g l = Appends (g.K.Sink.held l.initial.sink) (g.K.Sink.held l.sink) (flat_map open_instance_bytes (take l.one-index l.reported))

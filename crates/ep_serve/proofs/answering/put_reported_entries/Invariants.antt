use Rattle.std.proofs.Common.{take, drop}
use Rattle.std.specs.List.{flat_map}
use Rattle.std.specs.Io.KnownBytes.{Appends}
use Rattle.ep_serve.specs.Answering.{reported_entry}
use Rattle.ep_serve.proofs.answering.put_reported_entries.Given as goal

abbrev pub invariant-loop-index : goal.invariant-loop-index
invariant-loop-index g l = Appends (g.K.Sink.held l.initial.sink) (g.K.Sink.held l.sink) (flat_map (reported_entry l.replica) (take l.index (drop l.from l.replica.entries)))

use Rattle.std.proofs.Common.{take}
use Rattle.std.specs.List.{flat_map}
use Rattle.std.specs.Io.KnownBytes.{Appends}
use Rattle.ep_embedded.specs.Following.{follow_bytes}
use Rattle.ep_embedded.proofs.following.put_entries.Given as goal

abbrev pub invariant-loop-entry : goal.invariant-loop-entry
invariant-loop-entry g l =
    Appends (g.K.Sink.held l.initial.sink) (g.K.Sink.held l.sink)
    (flat_map (follow_bytes l.replica) (take l.entry-index l.entries))

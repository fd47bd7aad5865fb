use Rattle.std.proofs.Common.{take}
use Rattle.std.specs.List.{flat_map}
use Rattle.std.specs.Io.KnownBytes.{Appends}
use Rattle.ep_embedded.specs.Following.{done_bytes}
use Rattle.ep_embedded.proofs.following.put_all_done.Given as goal

abbrev pub invariant-loop-done : goal.invariant-loop-done
invariant-loop-done g l =
    Appends (g.K.Sink.held l.initial.sink) (g.K.Sink.held l.sink)
    (flat_map (done_bytes l.replica) (take l.done-index l.all))

use Rattle.std.proofs.Common.{◌≡◌, ◌++◌}
use Rattle.ep_view.specs.Sequences.{participants}
use Rattle.ep_view.proofs.sequencing.push_participants.Given as goal

abbrev pub invariant-loop-replica : goal.invariant-loop-replica
invariant-loop-replica l = l.text.items ≡ l.initial.text.items ++ participants l.replica

use Rattle.std.proofs.Common.{◌≡◌, None}
use Rattle.ep_rules.specs.Counting.{least}
use Rattle.ep_rules.specs.States.{is_free}
use Rattle.ep_space.proofs.space.Space.free_number.Given as goal

abbrev pub invariant-loop-place : goal.invariant-loop-place
invariant-loop-place l = record { none : least l.place (is_free l.self.records l.replica) ≡ None }

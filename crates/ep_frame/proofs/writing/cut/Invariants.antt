use Rattle.std.proofs.Common.{◌≡◌, ◌+◌, ◌-◌, ◌≤◌, ◌++◌, drop, length}
use Rattle.std.specs.List.{concat, AllByRecursion}
use Rattle.std.specs.Vec.{vec_len, vec_capacity}
use Rattle.ep_frame.specs.Rounds.{readdressed_to}
use Rattle.ep_frame.specs.Spelling.{IsFrame}
use Rattle.ep_frame.proofs.writing.cut.Given as goal

abbrev pub invariant-loop-place : goal.invariant-loop-place
invariant-loop-place l = record {
  done : l.frames.items ++ readdressed_to l.frame l.round.entry l.round.stamp l.place (drop l.place l.round.receivers.now) ≡ readdressed_to l.frame l.round.entry l.round.stamp 0 l.round.receivers.now;
  rest : l.rest ≡ concat (readdressed_to l.frame l.round.entry l.round.stamp l.place (drop l.place l.round.receivers.now));
  frames : AllByRecursion (λ b. IsFrame b) (readdressed_to l.frame l.round.entry l.round.stamp l.place (drop l.place l.round.receivers.now));
  room : vec_len l.frames + (length l.round.receivers.now - l.place) ≤ vec_capacity l.frames;
}

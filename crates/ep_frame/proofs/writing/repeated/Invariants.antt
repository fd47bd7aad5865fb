use Rattle.std.proofs.Common.{◌≡◌, ◌++◌, drop}
use Rattle.std.specs.List.{concat}
use Rattle.ep_frame.specs.Rounds.{OriginsFit, readdressed_to}
use Rattle.ep_frame.proofs.writing.repeated.Given as goal

abbrev pub invariant-loop-place : goal.invariant-loop-place
invariant-loop-place l = record {
  bytes : l.all.items ++ concat (readdressed_to l.frame l.round.entry l.round.stamp l.place (drop l.place l.round.receivers.now)) ≡ concat (readdressed_to l.frame l.round.entry l.round.stamp 0 l.round.receivers.now);
  fits : OriginsFit l.round.entry l.round.stamp l.place (drop l.place l.round.receivers.now) → OriginsFit l.round.entry l.round.stamp 0 l.round.receivers.now;
}

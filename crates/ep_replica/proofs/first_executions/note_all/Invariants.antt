use Rattle.std.proofs.Common.{◌≡◌, drop, length}
use Rattle.ep_replica.specs.FirstExecutions.{AreNoted, HavePlaces}
use Rattle.ep_replica.proofs.first_executions.note_all.Given as goal

abbrev pub invariant-loop-place : goal.invariant-loop-place
invariant-loop-place l = record {
  room : HavePlaces l.me (length l.items.items) (drop l.place l.done);
  long : length l.items.items ≡ length l.fn.items.items;
  noted : AreNoted l.me l.entry l.fn.items.items l.done l.place l.items.items;
}

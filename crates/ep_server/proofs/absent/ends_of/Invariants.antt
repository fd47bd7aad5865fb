use Rattle.std.proofs.Common.{◌≡◌, Some, drop, max, min}
use Rattle.std.specs.List.{fold, reduce}
use Rattle.ep_server.specs.Absent.{numbers_of}
use Rattle.ep_server.proofs.absent.ends_of.Given as goal

abbrev pub invariant-loop-one : goal.invariant-loop-one
invariant-loop-one l = record {
  oldest : Some (fold min l.oldest (numbers_of (drop l.one-index l.held))) ≡ reduce min (numbers_of l.held);
  newest : Some (fold max l.newest (numbers_of (drop l.one-index l.held))) ≡ reduce max (numbers_of l.held);
}

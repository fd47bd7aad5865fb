use Rattle.std.proofs.Common.{◌≡◌, ◌+◌, length}
use Rattle.ep_script.specs.Clauses.{below}
use Rattle.ep_script.proofs.tx_items.place_of.Given as goal

abbrev pub invariant-loop-rest : goal.invariant-loop-rest
invariant-loop-rest l = record {
  place : below l.key l.items ≡ l.place + below l.key l.rest;
  whole : l.place + length l.rest ≡ length l.items;
}

abbrev pub decreases-loop-rest : goal.decreases-loop-rest
decreases-loop-rest l = length l.rest

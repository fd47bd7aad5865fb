use Rattle.std.proofs.Common.{length, ◌-◌, ◌≤◌}
use Rattle.ep_space.specs.Index.{count_below}
use Rattle.ep_space.proofs.index.position.Given as goal

abbrev pub invariant-loop-low : goal.invariant-loop-low
invariant-loop-low l = record {
  above : l.low ≤ count_below l.id l.run;
  below : count_below l.id l.run ≤ l.high;
  within : l.high ≤ length l.run;
}

abbrev pub decreases-loop-low : goal.decreases-loop-low
decreases-loop-low l = l.high - l.low

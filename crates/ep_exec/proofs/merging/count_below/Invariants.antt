use Rattle.std.proofs.Common.{◌≤◌, ◌-◌, length}
use Rattle.ep_exec.specs.Merging.{below}
use Rattle.ep_exec.proofs.merging.count_below.Given as goal

abbrev pub invariant-loop-low : goal.invariant-loop-low
invariant-loop-low l = record {
  low : l.low ≤ length (below l.key l.base.items);
  high : length (below l.key l.base.items) ≤ l.high;
  within : l.high ≤ length l.base.items;
}

abbrev pub decreases-loop-low : goal.decreases-loop-low
decreases-loop-low l = l.high - l.low

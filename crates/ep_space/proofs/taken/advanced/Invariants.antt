use Rattle.std.proofs.Common.{◌≡◌, ℕ, ◌<◌, ◌≤◌, ◌-◌, false}
use Rattle.ep_base.specs.Instances.{highest_number}
use Rattle.ep_rules.specs.States.{is_free}
use Rattle.ep_space.proofs.taken.advanced.Given as goal

abbrev pub invariant-loop-taken : goal.invariant-loop-taken
invariant-loop-taken l = record {
  bounded : l.taken ≤ highest_number;
  full : (n : ℕ) → n < l.taken → is_free l.table.held l.leader n ≡ false;
}

abbrev pub decreases-loop-taken : goal.decreases-loop-taken
decreases-loop-taken l = highest_number - l.taken

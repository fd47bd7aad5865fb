use Rattle.std.proofs.Common.{ℕ, ◌≤◌, ◌+◌, ◌*◌, drop}
use Rattle.std.specs.List.{AllByRecursion}
use Rattle.ep_base.specs.Instances.{highest_number}
use Rattle.ep_space.specs.Entries.{slot}
use Rattle.ep_exec.proofs.marks.top_number.Given as goal

abbrev pub invariant-loop-instance : goal.invariant-loop-instance
invariant-loop-instance l = record {
  small : l.top ≤ highest_number;
  whole : (t : ℕ) → l.top ≤ t → AllByRecursion (λ i. slot i ≤ t * 8 + 6) (drop l.instance-index l.list) → AllByRecursion (λ i. slot i ≤ t * 8 + 6) l.list;
}

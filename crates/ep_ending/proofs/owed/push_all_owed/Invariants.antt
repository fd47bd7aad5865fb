use Rattle.std.proofs.Common.{ℕ, List}
use Rattle.ep_base.specs.Instances.{instance_of}
use Rattle.ep_ending.specs.Endings.{AddsOwedBefore}
use Rattle.ep_ending.proofs.owed.push_all_owed.Given as goal

abbrev pub invariant-loop-number : goal.invariant-loop-number
invariant-loop-number l =
    (first : List ℕ) → AddsOwedBefore l.journals (instance_of l.replica 0) first l.initial.text.items → AddsOwedBefore l.journals (instance_of l.replica l.number) first l.text.items

use Rattle.std.proofs.Common.{◌≡◌, ◌++◌, drop}
use Rattle.std.specs.List.{flat_map}
use Rattle.ep_exec.specs.Walk.{lists}
use Rattle.ep_exec.proofs.planning.members_of.Given as goal

abbrev pub invariant-loop-component : goal.invariant-loop-component
invariant-loop-component l = l.all.items ++ flat_map (λ c. c) (lists (drop l.component-index l.found)) ≡ flat_map (λ c. c) (lists l.found)

use Rattle.std.proofs.Common.{◌≡◌, None, take}
use Rattle.ep_rules.specs.States.{graph_in}
use Rattle.ep_exec.specs.Found.{IsLeast}
use Rattle.ep_exec.proofs.planning.least_missing.Given as goal

abbrev pub invariant-loop-instance : goal.invariant-loop-instance
invariant-loop-instance l = IsLeast (λ i. graph_in l.space.records i ≡ None) (take l.instance-index l.members) l.best

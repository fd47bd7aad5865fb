use Rattle.std.proofs.Common.{take}
use Rattle.ep_base.specs.Places.{Has}
use Rattle.ep_exec.specs.Found.{IsLeast}
use Rattle.ep_exec.proofs.executed.Executed.least_left.Given as goal

abbrev pub invariant-loop-instance : goal.invariant-loop-instance
invariant-loop-instance l = IsLeast (λ i. ¬ Has l.self.list i) (take l.instance-index l.list) l.best

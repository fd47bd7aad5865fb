use Rattle.std.proofs.Common.{◌≡◌, drop}
use Rattle.ep_exec.specs.Ready.{are_in}
use Rattle.ep_exec.proofs.executed.Executed.contains_all.Given as goal

abbrev pub invariant-loop-instance : goal.invariant-loop-instance
invariant-loop-instance l = are_in l.self.list (drop l.instance-index l.list) ≡ are_in l.self.list l.list

use Rattle.std.proofs.Common.{◌≡◌, drop}
use Rattle.ep_rules.specs.States.{graph_in}
use Rattle.ep_exec.specs.Missing.{first_lacking}
use Rattle.ep_exec.proofs.reach.first_lacking.Given as goal

abbrev pub invariant-loop-instance : goal.invariant-loop-instance
invariant-loop-instance l = first_lacking (graph_in l.space.records) l.executed.list (drop l.instance-index l.list) ≡ first_lacking (graph_in l.space.records) l.executed.list l.list

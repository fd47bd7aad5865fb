use Rattle.std.proofs.Common.{◌≡◌, ◌-◌, ◌++◌, List, None}
use Rattle.ep_node.specs.Reporting.{AreOpen}
use Rattle.ep_node.specs.declared.open_instance.OpenInstance.{OpenInstance}
use Rattle.ep_node.proofs.reporting.open_in.Given as goal

-- whatever the others give completes the whole
abbrev pub invariant-loop : goal.invariant-loop
invariant-loop l = (rest : List OpenInstance) → AreOpen l.replica (l.most - l.counter) l.above rest → AreOpen l.replica l.most None (l.reported.items ++ rest)

use Rattle.std.proofs.Common.{◌≡◌, ◌++◌, take}
use Rattle.std.specs.List.{flat_map}
use Rattle.ep_frame.specs.Fields.{dep_bytes}
use Rattle.ep_frame.proofs.writing.put_each.Given as goal

abbrev pub invariant-loop-dep : goal.invariant-loop-dep
invariant-loop-dep l = l.out.items ≡ l.initial.out.items ++ flat_map dep_bytes (take l.dep-index l.deps)

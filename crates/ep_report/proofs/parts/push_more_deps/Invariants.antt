use Rattle.std.proofs.Common.{◌≡◌, ◌++◌, drop}
use Rattle.ep_report.specs.Parts.{more_deps}
use Rattle.ep_report.proofs.parts.push_more_deps.Given as goal

abbrev pub invariant-loop-instance : goal.invariant-loop-instance
invariant-loop-instance l = l.text.items ++ more_deps (drop l.instance-index l.deps) ≡ l.initial.text.items ++ more_deps l.deps

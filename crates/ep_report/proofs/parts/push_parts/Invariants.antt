use Rattle.std.proofs.Common.{◌≡◌, drop}
use Rattle.ep_report.specs.Parts.{more_parts}
use Rattle.ep_report.proofs.parts.push_parts.Given as goal

abbrev pub invariant-loop-part : goal.invariant-loop-part
invariant-loop-part l = more_parts l.text.items (drop l.part-index l.parts) ≡ more_parts l.initial.text.items l.parts

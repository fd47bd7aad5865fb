use Rattle.std.proofs.Common.{◌≡◌, ◌++◌, drop}
use Rattle.ep_report.specs.Parts.{values_text}
use Rattle.ep_report.proofs.parts.push_values.Given as goal

abbrev pub invariant-loop-value : goal.invariant-loop-value
invariant-loop-value l = l.text.items ++ values_text (drop l.value-index l.values) ≡ l.initial.text.items ++ values_text l.values

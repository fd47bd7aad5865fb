use Rattle.std.proofs.Common.{◌≡◌, ◌++◌, length}
use Rattle.ep_report.specs.Parts.{items_text}
use Rattle.ep_report.proofs.parts.push_items.Given as goal

abbrev pub invariant-loop-item : goal.invariant-loop-item
invariant-loop-item l = l.text.items ++ items_text l.items ≡ l.initial.text.items ++ items_text l.fn.items

abbrev pub decreases-loop-item : goal.decreases-loop-item
decreases-loop-item l = length l.items

use Rattle.std.proofs.Common.{◌≡◌, ◌++◌, drop, ◌+◌, true}
use Rattle.ep_json.specs.Values.{joined}
use Rattle.ep_report_json.specs.Items.{history_items}
use Rattle.ep_report_json.proofs.arrays.push_history_items.Given as goal

abbrev pub invariant-loop-index : goal.invariant-loop-index
invariant-loop-index l = l.text.items ++ joined l.at_start (history_items (l.index + 1) (drop l.index l.history)) ≡ l.initial.text.items ++ joined true (history_items 1 l.history)

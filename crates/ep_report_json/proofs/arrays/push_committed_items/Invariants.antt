use Rattle.std.proofs.Common.{◌≡◌, ◌++◌, drop, map, true}
use Rattle.ep_json.specs.Values.{joined}
use Rattle.ep_report_json.specs.Items.{committed_item}
use Rattle.ep_report_json.proofs.arrays.push_committed_items.Given as goal

abbrev pub invariant-loop-instance : goal.invariant-loop-instance
invariant-loop-instance l = l.text.items ++ joined l.at_start (map committed_item (drop l.instance-index l.committed)) ≡ l.initial.text.items ++ joined true (map committed_item l.committed)

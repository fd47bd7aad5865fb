use Rattle.std.proofs.Common.{◌≡◌, ◌++◌, drop, map, true}
use Rattle.ep_json.specs.Values.{joined}
use Rattle.ep_report_json.specs.Items.{refused_item}
use Rattle.ep_report_json.proofs.arrays.push_refused_items.Given as goal

abbrev pub invariant-loop-line : goal.invariant-loop-line
invariant-loop-line l = l.text.items ++ joined l.at_start (map refused_item (drop l.line-index l.refused)) ≡ l.initial.text.items ++ joined true (map refused_item l.refused)

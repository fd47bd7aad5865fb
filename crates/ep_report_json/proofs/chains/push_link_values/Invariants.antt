use Rattle.std.proofs.Common.{◌≡◌, ◌++◌, drop, true}
use Rattle.ep_json.specs.Values.{joined}
use Rattle.ep_report_json.specs.Chains.{link_values}
use Rattle.ep_report_json.proofs.chains.push_link_values.Given as goal

abbrev pub invariant-loop-place : goal.invariant-loop-place
invariant-loop-place l = l.text.items ++ joined l.at_start (link_values (drop l.place l.links) (drop l.place l.verdicts)) ≡ l.initial.text.items ++ joined true (link_values l.links l.verdicts)

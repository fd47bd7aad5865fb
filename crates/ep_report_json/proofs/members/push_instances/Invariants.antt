use Rattle.std.proofs.Common.{◌≡◌, ◌++◌, drop, map, true}
use Rattle.ep_json.specs.Values.{joined}
use Rattle.ep_report_json.specs.Members.{instance_value}
use Rattle.ep_report_json.proofs.members.push_instances.Given as goal

abbrev pub invariant-loop-instance : goal.invariant-loop-instance
invariant-loop-instance l = l.text.items ++ joined l.at_start (map instance_value (drop l.instance-index l.instances)) ≡ l.initial.text.items ++ joined true (map instance_value l.instances)

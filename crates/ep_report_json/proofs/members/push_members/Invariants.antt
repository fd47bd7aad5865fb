use Rattle.std.proofs.Common.{◌≡◌, ◌++◌, drop, map}
use Rattle.ep_json.specs.Values.{joined}
use Rattle.ep_report_json.specs.Members.{member_of}
use Rattle.ep_report_json.proofs.members.push_members.Given as goal

abbrev pub invariant-loop-member : goal.invariant-loop-member
invariant-loop-member l = l.text.items ++ joined l.at_start (map member_of (drop l.member-index l.members)) ≡ l.initial.text.items ++ joined l.is_first (map member_of l.members)

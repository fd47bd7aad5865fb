use Rattle.std.proofs.Common.{◌≡◌, ◌≤◌, ◌-◌, ◌++◌, drop, take, length}
use Rattle.ep_report_json.specs.Members.{first_word}
use Rattle.ep_report_json.proofs.members.first_word.Given as goal

-- the bytes so far, and the first word of the others
abbrev pub invariant-loop-len : goal.invariant-loop-len
invariant-loop-len l = (l.len ≤ length l.bytes) × (take l.len l.bytes ++ first_word (drop l.len l.bytes) ≡ first_word l.bytes)

abbrev pub decreases-loop-len : goal.decreases-loop-len
decreases-loop-len l = length l.bytes - l.len

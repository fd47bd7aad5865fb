use Rattle.std.proofs.Common.{◌≡◌, ◌++◌, drop, filter}
use Rattle.ep_explain.specs.Reasons.{is_plain}
use Rattle.ep_explain.proofs.reasons.push_plain.Given as goal

abbrev pub invariant-loop-byte : goal.invariant-loop-byte
invariant-loop-byte l = l.text.items ++ filter is_plain (drop l.byte-index l.words) ≡ l.initial.text.items ++ filter is_plain l.words

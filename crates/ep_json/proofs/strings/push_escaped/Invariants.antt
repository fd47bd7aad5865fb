use Rattle.std.proofs.Common.{◌≡◌, ◌++◌, drop}
use Rattle.ep_json.specs.Strings.{escaped}
use Rattle.ep_json.proofs.strings.push_escaped.Given as goal

abbrev pub invariant-loop-byte : goal.invariant-loop-byte
invariant-loop-byte l = l.text.items ++ escaped (drop l.byte-index l.words) ≡ l.initial.text.items ++ escaped l.words

use Rattle.std.proofs.Common.{◌≡◌, ◌++◌, drop}
use Rattle.ep_script.specs.Word.{byte_words}
use Rattle.ep_script.proofs.word.push_bytes.Given as goal

abbrev pub invariant-loop-byte : goal.invariant-loop-byte
invariant-loop-byte l = l.text.items ++ byte_words (drop l.byte-index l.bytes) ≡ l.initial.text.items ++ byte_words l.bytes

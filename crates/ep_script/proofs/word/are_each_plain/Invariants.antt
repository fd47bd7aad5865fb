use Rattle.std.proofs.Common.{◌≡◌, ◌&&◌, drop}
use Rattle.std.specs.List.{list_all}
use Rattle.ep_script.specs.Word.{is_plain}
use Rattle.ep_script.proofs.word.are_each_plain.Given as goal

-- so far, and of what is left, is what is of all
abbrev pub invariant-loop-byte : goal.invariant-loop-byte
invariant-loop-byte l = (l.plain && list_all is_plain (drop l.byte-index l.bytes)) ≡ list_all is_plain l.bytes

use Rattle.std.proofs.Common.{◌≡◌, ◌&&◌, drop}
use Rattle.std.specs.Prelude.{nat_le}
use Rattle.std.specs.List.{list_all}
use Rattle.ep_script.specs.Word.{is_above_sign}
use Rattle.ep_script.proofs.word.are_above_sign.Given as goal

-- so far, and of what is left, is what is of all
abbrev pub invariant-loop-byte : goal.invariant-loop-byte
invariant-loop-byte l =
    (nat_le 38 l.least && nat_le l.greatest 126 && list_all is_above_sign (drop l.byte-index l.bytes))
    ≡ list_all is_above_sign l.bytes

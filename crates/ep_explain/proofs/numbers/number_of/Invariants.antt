use Rattle.std.proofs.Common.{◌≡◌, drop}
use Rattle.ep_explain.proofs.Numbering.{wrapped}
use Rattle.ep_explain.proofs.numbers.number_of.Given as goal

abbrev pub invariant-loop-byte : goal.invariant-loop-byte
invariant-loop-byte l = wrapped l.number (drop l.byte-index l.bytes) ≡ wrapped 0 l.bytes

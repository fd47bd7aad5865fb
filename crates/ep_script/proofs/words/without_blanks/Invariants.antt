use Rattle.std.proofs.Common.{◌≡◌, ◌≤◌, length}
use Rattle.ep_script.specs.Parts.{words_of}
use Rattle.ep_script.proofs.words.without_blanks.Given as goal

abbrev pub invariant-loop-rest : goal.invariant-loop-rest
invariant-loop-rest l = record {
  words : words_of l.rest ≡ words_of l.line;
  shorter : length l.rest ≤ length l.line;
}

abbrev pub decreases-loop-rest : goal.decreases-loop-rest
decreases-loop-rest l = length l.rest

use Rattle.std.proofs.Common.{◌≡◌, [], length}
use Rattle.ep_script.specs.Grammar.{counts_after}
use Rattle.ep_script.specs.Parts.{words_of}
use Rattle.ep_script.proofs.reading_replay.counts.Given as goal

abbrev pub invariant-loop-word : goal.invariant-loop-word
invariant-loop-word l = counts_after l.messages (words_of l.rest) ≡ counts_after [] (words_of l.words)

abbrev pub decreases-loop-word : goal.decreases-loop-word
decreases-loop-word l = length l.rest

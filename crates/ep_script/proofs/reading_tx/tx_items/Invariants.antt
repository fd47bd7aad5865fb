use Rattle.std.proofs.Common.{◌≡◌, [], length}
use Rattle.ep_script.specs.Grammar.{items_after}
use Rattle.ep_script.specs.Parts.{words_of}
use Rattle.ep_script.proofs.reading_tx.tx_items.Given as goal

abbrev pub invariant-loop-word : goal.invariant-loop-word
invariant-loop-word l = items_after l.items (words_of l.rest) ≡ items_after [] (words_of l.words)

abbrev pub decreases-loop-word : goal.decreases-loop-word
decreases-loop-word l = length l.rest

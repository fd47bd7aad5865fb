use Rattle.std.proofs.Common.{◌≡◌, ◌++◌, drop}
use Rattle.ep_view.specs.Labels.{dot_words}
use Rattle.ep_view.proofs.labels.push_dot_words.Given as goal

abbrev pub invariant-loop-byte : goal.invariant-loop-byte
invariant-loop-byte l = l.text.items ++ dot_words (drop l.byte-index l.words) ≡ l.initial.text.items ++ dot_words l.words

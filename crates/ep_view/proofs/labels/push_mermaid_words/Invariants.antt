use Rattle.std.proofs.Common.{◌≡◌, ◌++◌, drop}
use Rattle.ep_view.specs.Labels.{mermaid_words}
use Rattle.ep_view.proofs.labels.push_mermaid_words.Given as goal

abbrev pub invariant-loop-byte : goal.invariant-loop-byte
invariant-loop-byte l = l.text.items ++ mermaid_words (drop l.byte-index l.words) ≡ l.initial.text.items ++ mermaid_words l.words

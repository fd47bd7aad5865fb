use Rattle.std.proofs.Common.{◌≡◌, ◌++◌, drop}
use Rattle.ep_view.specs.Sequences.{all_answered}
use Rattle.ep_view.proofs.sequence_lines.push_all_answered.Given as goal

abbrev pub invariant-loop-one : goal.invariant-loop-one
invariant-loop-one l = l.text.items ++ all_answered (drop l.one-index l.done) ≡ l.initial.text.items ++ all_answered l.done

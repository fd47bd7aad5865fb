use Rattle.std.proofs.Common.{◌≡◌, ◌++◌}
use Rattle.ep_ending.specs.Lines.{names_text}
use Rattle.ep_ending.proofs.named.push_names.Given as goal

abbrev pub invariant-loop-place : goal.invariant-loop-place
invariant-loop-place l = l.text.items ≡ l.initial.text.items ++ names_text l.cluster l.leader l.place

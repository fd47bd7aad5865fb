use Rattle.std.proofs.Common.{◌≡◌, ◌++◌, drop}
use Rattle.ep_assemble.specs.Shown.{pair_lines}
use Rattle.ep_assemble.proofs.map_lines.push_pairs.Given as goal

abbrev pub invariant-loop-pair : goal.invariant-loop-pair
invariant-loop-pair l = l.text.items ++ pair_lines (drop l.pair-index l.pairs) ≡ l.initial.text.items ++ pair_lines l.pairs

use Rattle.std.proofs.Common.{◌≡◌, ◌++◌, replicate}
use Rattle.ep_view.proofs.side_by_side.push_row.Given as goal

abbrev pub invariant-loop : goal.invariant-loop
invariant-loop l = l.text.items ≡ l.initial.text.items ++ replicate l.counter 32

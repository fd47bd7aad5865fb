use Rattle.ep_view.specs.Columns.{IsCutBelow}
use Rattle.ep_view.proofs.side_by_side.cut_of.Given as goal

abbrev pub invariant-loop-place : goal.invariant-loop-place
invariant-loop-place l = IsCutBelow l.place l.text l.cut

use Rattle.std.proofs.Common.{◌≡◌, length}
use Rattle.ep_base.specs.Sameness.{same_options}
use Rattle.ep_base.proofs.reply_values.are_same.Given as goal

abbrev pub invariant-loop-left : goal.invariant-loop-left
invariant-loop-left l = same_options l.left l.right ≡ same_options l.values l.others

abbrev pub decreases-loop-left : goal.decreases-loop-left
decreases-loop-left l = length l.left

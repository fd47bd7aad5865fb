use Rattle.std.proofs.Common.{◌≡◌, max, drop}
use Rattle.ep_folder.specs.Plans.{left_for}
use Rattle.ep_folder.proofs.planning.left_for.Given as goal

-- the greatest so far, and of what is left
abbrev pub invariant-loop-one : goal.invariant-loop-one
invariant-loop-one l = max l.left (left_for (drop l.one-index l.held)) ≡ left_for l.held

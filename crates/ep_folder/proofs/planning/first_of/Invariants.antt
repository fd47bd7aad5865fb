use Rattle.std.proofs.Common.{◌≡◌, ◌≤◌}
use Rattle.ep_folder.specs.Plans.{first_of}
use Rattle.ep_folder.proofs.planning.first_of.Given as goal

abbrev pub invariant-loop-first : goal.invariant-loop-first
invariant-loop-first l = (first_of l.first l.held ≡ first_of l.initial.first l.held) × (l.first ≤ l.initial.first)

abbrev pub decreases-loop-first : goal.decreases-loop-first
decreases-loop-first l = l.first

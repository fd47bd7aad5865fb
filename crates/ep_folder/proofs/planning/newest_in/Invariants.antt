use Rattle.std.proofs.Common.{◌≡◌, max, drop}
use Rattle.ep_folder.specs.Plans.{newest}
use Rattle.ep_folder.proofs.planning.newest_in.Given as goal

-- the greatest so far, and of what is left
abbrev pub invariant-loop-one : goal.invariant-loop-one
invariant-loop-one l = max l.newest (newest (drop l.one-index l.held)) ≡ newest l.held

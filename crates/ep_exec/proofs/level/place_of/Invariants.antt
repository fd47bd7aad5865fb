use Rattle.std.proofs.Common.{◌≡◌, ◌+◌, drop}
use Rattle.ep_base.specs.Places.{place}
use Rattle.ep_exec.proofs.level.place_of.Given as goal

-- what is left of the list goes on from here
abbrev pub invariant-loop-place : goal.invariant-loop-place
invariant-loop-place l = place l.list l.instance ≡ l.place + place (drop l.place l.list) l.instance

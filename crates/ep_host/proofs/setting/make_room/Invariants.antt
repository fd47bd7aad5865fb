use Rattle.std.proofs.Common.{◌≡◌}
use Rattle.ep_host.proofs.setting.make_room.Given as goal

abbrev pub invariant-loop-place : goal.invariant-loop-place
invariant-loop-place l = l.links ≡ l.initial.links

use Rattle.ep_host.specs.Fates.{Releases}
use Rattle.ep_host.proofs.Losing.{LosesFirst}
use Rattle.ep_host.proofs.setting.release_all.Given as goal

abbrev pub invariant-loop-place : goal.invariant-loop-place
invariant-loop-place l = LosesFirst Releases l.place l.initial.lost l.lost l.initial.links l.links

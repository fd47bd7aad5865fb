use Rattle.ep_host.specs.Setting.{CountsAnew}
use Rattle.ep_host.proofs.Places.{Firsts}
use Rattle.ep_host.proofs.setting.count_anew.Given as goal

abbrev pub invariant-loop-place : goal.invariant-loop-place
invariant-loop-place l = Firsts CountsAnew l.place l.initial.links l.links

use Rattle.std.proofs.Common.{◌≤◌, ◌*◌, take}
use Rattle.ep_host.specs.Fates.{IsSent}
use Rattle.ep_host.specs.Rings.{ArePeers}
use Rattle.ep_host.proofs.putting.send.Given as goal

abbrev pub invariant-loop-frame : goal.invariant-loop-frame
invariant-loop-frame l = record { sent : IsSent l.weather (take l.frame-index l.frames) l.lost l.initial.links.items l.links.items; few : l.lost ≤ 2 * l.frame-index; peers : ArePeers l.me l.links.items }

use Rattle.std.proofs.Common.{◌≡◌, drop}
use Rattle.ep_host.specs.Weathers.{kind_at}
use Rattle.ep_host.proofs.weather.kind_at.Given as goal

abbrev pub invariant-loop-it : goal.invariant-loop-it
invariant-loop-it l = kind_at (drop l.it-index l.weather) l.peer l.count ≡ kind_at l.weather l.peer l.count

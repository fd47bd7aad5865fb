use Rattle.std.proofs.Common.{◌≡◌, take}
use Rattle.ep_host.specs.Weathers.{own_of}
use Rattle.ep_host.proofs.weather.own_of.Given as goal

abbrev pub invariant-loop-it : goal.invariant-loop-it
invariant-loop-it l = l.own.items ≡ own_of l.me (take l.it-index l.weather)

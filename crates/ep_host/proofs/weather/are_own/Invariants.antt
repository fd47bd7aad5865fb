use Rattle.std.proofs.Common.{◌≡◌, take, All}
use Rattle.ep_host.specs.declared.weather.Weather.{Weather}
use Rattle.ep_host.proofs.weather.are_own.Given as goal

abbrev pub invariant-loop-it : goal.invariant-loop-it
invariant-loop-it l = All (λ (w : Weather). w.from ≡ l.me) (take l.it-index l.weather)

use Rattle.std.proofs.Common.{take, All}
use Rattle.ep_host.specs.Weathers.{NameOne}
use Rattle.ep_host.specs.declared.weather.Weather.{Weather}
use Rattle.ep_host.proofs.weather.is_named.Given as goal

abbrev pub invariant-loop-other : goal.invariant-loop-other
invariant-loop-other l = All (λ (v : Weather). NameOne v l.it → ⊥) (take l.other-index l.weather)

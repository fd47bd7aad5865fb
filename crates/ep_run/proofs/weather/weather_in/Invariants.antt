use Rattle.std.proofs.Common.{◌≡◌, take}
use Rattle.ep_run.specs.Weathers.{weather_in}
use Rattle.ep_run.proofs.weather.weather_in.Given as goal

abbrev pub invariant-loop-line : goal.invariant-loop-line
invariant-loop-line l = l.weather.items ≡ weather_in (take l.line-index l.lines)

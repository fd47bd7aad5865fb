use Rattle.std.proofs.Common.{ℕ}
use Rattle.ep_host.specs.Host.{IsHost}
use Rattle.ep_host.proofs.Places.{Firsts}
use Rattle.ep_run.specs.Weathers.{weather_in, SetsOwn}
use Rattle.ep_run.proofs.ring_weather.set_weather.Given as goal

abbrev pub invariant-loop-place : goal.invariant-loop-place
invariant-loop-place l = record {
  firsts : Firsts (SetsOwn (weather_in l.section.weather)) l.place l.fn.nodes l.nodes;
  host : (f : ℕ) → IsHost f l.fn.nodes → IsHost f l.nodes;
}

use Rattle.ep_host.proofs.Naming.{Checked}
use Rattle.ep_host.proofs.weather.is_weather.Given as goal

abbrev pub invariant-loop-place : goal.invariant-loop-place
invariant-loop-place l = Checked l.cluster l.weather l.place

use Rattle.std.proofs.Common.{sym, subst}
use Rattle.ep_base.specs.Quorums.{size as size_with}
use Rattle.ep_script.specs.Fits.{FitsWeather}
use Rattle.ep_script.specs.Plan.{OpenPlan}
use Rattle.ep_script.proofs.LinesFit.{weather_taken}
use Rattle.ep_script.proofs.open_run.OpenRun.take_weather.Goals as goal

pub invariant_of-self-2 : goal.invariant_of-self-2
invariant_of-self-2 c =
    let n = size_with c.self.inside.head.faults in
    let fits : FitsWeather n c.args.line = subst (λ (p : OpenPlan). FitsWeather (size_with p.head.faults) c.args.line) (sym c.self.view_is) c.requires in
    (c.self.invariant.0, weather_taken n c.args.line c.self.inside.current c.push_weather.new.self c.in_ok-is_new.is_new c.in_ok-is_new.ensures.ok fits c.self.invariant.1)

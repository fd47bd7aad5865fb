use Rattle.std.proofs.Common.{◌≡◌, ◌∙◌, ap, subst, sym}
use Rattle.ep_host.specs.Weathers.{IsWeather}
use Rattle.ep_script.specs.Plan.{SectionPlan}
use Rattle.ep_run.specs.Weathers.{weather_in}
use Rattle.ep_run.proofs.Weathering.{memory_alone, section_weather}
use Rattle.ep_run.proofs.runner.Runner.set_weather.Goals as goal

pub want_of_memory-requires : goal.want_of_memory-requires
want_of_memory-requires g c =
    let f = c.args.self.now.host.cluster in
    let plan : SectionPlan = c.args.section.now in
    let same : c.deref.result.now ≡ weather_in plan.weather = c.deref.ensures.value ∙ c.in_ok-weather.ensures ∙ ap weather_in c.weather.ensures in
    memory_alone (IsWeather f c.deref.result.now) c.in-Err.fault (subst (IsWeather f) (sym same) (section_weather f plan c.requires)) c.in-Err.ensures.unset

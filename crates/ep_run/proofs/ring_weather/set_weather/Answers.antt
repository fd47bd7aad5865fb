use Rattle.std.proofs.Common.{◌≡◌, ◌∙◌, ℕ, List, subst, sym, ap}
use Rattle.ep_base.specs.Quorums.{size}
use Rattle.ep_host.specs.Setting.{SetsWeatherAt}
use Rattle.ep_host.specs.Weathers.{IsWeather, own_of}
use Rattle.ep_host.specs.declared.weather.Weather.{Weather}
use Rattle.ep_host.proofs.Places.{firsts_none, firsts_all}
use Rattle.ep_script.specs.Fits.{FitsSection}
use Rattle.ep_run.specs.Weathers.{weather_in, SetsOwn}
use Rattle.ep_run.proofs.Weathering.{section_weather, set_more}
use Rattle.ep_run.proofs.ring_weather.set_weather.Goals as goal

pub loop-place-init : goal.loop-place-init
loop-place-init c = record { firsts = firsts_none (SetsOwn (weather_in c.args.section.now.weather)) c.args.nodes.now; host = λ f host. host }

pub set_own-requires-clause-host : goal.set_own-requires-clause-host
set_own-requires-clause-host c =
    let h = c.requires.host in
    let ws : List Weather = weather_in c.args.section.now.weather in
    let fits : FitsSection (size h.0) c.args.section.now = subst (λ (n : ℕ). FitsSection n c.args.section.now) h.1.count c.requires.fits in
    let same : c.deref.result.now ≡ ws = c.deref.ensures.value ∙ c.in_ok-weather.ensures ∙ ap weather_in c.weather.ensures in
    (h.0, c.loop-place.invariant.host h.0 h.1, subst (λ (l : List Weather). IsWeather h.0 l) (sym same) (section_weather h.0 c.args.section.now fits))

pub loop-place-preserved : goal.loop-place-preserved
loop-place-preserved c =
    let h = c.requires.host in
    let ws : List Weather = weather_in c.args.section.now.weather in
    let same : c.deref.result.now ≡ ws = c.deref.ensures.value ∙ c.in_ok-weather.ensures ∙ ap weather_in c.weather.ensures in
    let sets : SetsWeatherAt c.loop-place.place (own_of c.loop-place.place ws) c.loop-place.nodes c.set_own.new.nodes =
    subst (λ (l : List Weather). SetsWeatherAt c.loop-place.place (own_of c.loop-place.place l) c.loop-place.nodes c.set_own.new.nodes) same c.in_ok-set_own.ensures.set in record {
      firsts = set_more h.0 ws c.loop-place.place c.args.nodes.now c.loop-place.nodes c.set_own.new.nodes c.loop-place-test.true (c.loop-place.invariant.host h.0 h.1) c.loop-place.invariant.firsts sets;
      host = λ f host. c.set_own.ensures.host f (c.loop-place.invariant.host f host);
    }

pub returns-in_err-set_own-clause-host : goal.returns-in_err-set_own-clause-host
returns-in_err-set_own-clause-host c = λ f host. c.set_own.ensures.host f (c.loop-place.invariant.host f host)

pub returns-clause-set : goal.returns-clause-set
returns-clause-set c = firsts_all (SetsOwn (weather_in c.args.section.now.weather)) c.loop-place.place c.args.nodes.now c.loop-place.nodes c.loop-place-test.false c.loop-place.invariant.firsts

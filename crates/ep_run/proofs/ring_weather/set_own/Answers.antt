use Rattle.std.proofs.Common.{rules, ◌≡◌, ◌∙◌, ℕ, List, ap, subst, get_or}
use Rattle.ep_host.specs.Node.{Node}
use Rattle.ep_host.specs.Setting.{SetsWeatherAt}
use Rattle.ep_host.specs.Weathers.{own_of}
use Rattle.ep_host.specs.declared.weather.Weather.{Weather}
use Rattle.ep_run.proofs.Running.{blank}
use Rattle.ep_run.proofs.Weathering.{only_memory}
use Rattle.ep_run.proofs.ring_weather.set_own.Goals as goal

pub want_of_memory-requires : goal.want_of_memory-requires
want_of_memory-requires c =
    let h = c.requires.host in
    let n : Node = c.index-nodes-place.result in
    let at : (get_or c.args.nodes.now c.args.place n).replica.me ≡ c.args.place = h.1.me c.args.place n c.requires.within in
    let me : c.me-me.result ≡ c.args.place = search (rules, at) in
    let same : c.deref.result.now ≡ own_of c.args.place c.args.weather.now = c.deref.ensures.value ∙ c.in_ok-own.ensures ∙ ap (λ (r : ℕ). own_of r c.args.weather.now) me in
    only_memory h.0 c.args.place c.args.nodes.now c.args.weather.now c.deref.result.now c.in-Err.fault h.1 c.requires.within h.2 same (c.in-Err.ensures.refused blank)

pub returns-in-Ok-clause-set : goal.returns-in-Ok-clause-set
returns-in-Ok-clause-set c =
    let h = c.requires.host in
    let n : Node = c.index-nodes-place.result in
    let at : (get_or c.args.nodes.now c.args.place n).replica.me ≡ c.args.place = h.1.me c.args.place n c.requires.within in
    let me : c.me-me.result ≡ c.args.place = search (rules, at) in
    let same : c.deref.result.now ≡ own_of c.args.place c.args.weather.now = c.deref.ensures.value ∙ c.in_ok-own.ensures ∙ ap (λ (r : ℕ). own_of r c.args.weather.now) me in
    subst (λ (l : List Weather). SetsWeatherAt c.args.place l c.args.nodes.now c.set_weather_at.new.nodes) same c.in-Ok.ensures.ok

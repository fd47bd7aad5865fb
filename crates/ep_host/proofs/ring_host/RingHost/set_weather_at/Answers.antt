use Rattle.std.proofs.Common.{get_or, set, refl, subst}
use Rattle.std.proofs.lemmas.List.{get_or_default}
use Rattle.std.proofs.lemmas.Result.{IfOk-weaker}
use Rattle.ep_host.specs.Node.{Node}
use Rattle.ep_host.specs.Setting.{SetsWeather, SetsWeatherAt}
use Rattle.ep_host.specs.Weathers.{IsWeatherAt}
use Rattle.ep_host.proofs.Releasing.{host_weathered}
use Rattle.ep_host.proofs.ring_host.RingHost.set_weather_at.Goals as goal

pub returns-clause-host : goal.returns-clause-host
returns-clause-host c = λ f host. host_weathered _ c.set_weather.result f c.args.nodes.now c.args.node c.set_weather.new.self c.index-nodes-node.result c.args.weather.now c.requires c.set_weather.ensures.ok c.set_weather.ensures.err host

pub returns-clause-ok : goal.returns-clause-ok
returns-clause-ok c =
    let xs = c.args.nodes.now in let k = c.args.node in let b = c.index-nodes-node.result in let node = c.set_weather.new.self in let ws = c.args.weather.now in
    let was : Node = get_or xs k b in
    IfOk-weaker c.set_weather.result (λ _. IsWeatherAt was.replica.faults was.replica.me ws × SetsWeather ws was node) (λ _. SetsWeatherAt k ws xs (set xs k node))
    (λ _ h. record {
      node = node;
      is = refl;
      own = λ d. subst (λ (n : Node). IsWeatherAt n.replica.faults n.replica.me ws) (get_or_default xs k b d c.requires) h.0;
      sets = λ d. subst (λ (n : Node). SetsWeather ws n node) (get_or_default xs k b d c.requires) h.1;
    })
    c.set_weather.ensures.ok

use Rattle.std.proofs.Common.{◌≡◌, All, subst, List}
use Rattle.std.proofs.lemmas.List.{take_all}
use Rattle.std.proofs.lemmas.List.Elements.{All-nil, All-more}
use Rattle.ep_host.specs.declared.weather.Weather.{Weather}
use Rattle.ep_host.proofs.Naming.{same_by}
use Rattle.ep_host.proofs.weather.are_own.Goals as goal

pub loop-it-init : goal.loop-it-init
loop-it-init c = All-nil (λ (w : Weather). w.from ≡ c.args.me)

pub loop-it-preserved : goal.loop-it-preserved
loop-it-preserved c = All-more (λ (w : Weather). w.from ≡ c.args.me) c.args.weather.now c.loop-it.it-index c.it-item.result c.loop-it-test.true c.loop-it.invariant
    (subst (λ (w : Weather). w.from ≡ c.args.me) c.it-item.is (same_by c.it-item.result.from c.args.me c.if-ne.ensures))

pub returns-clause-yes : goal.returns-clause-yes
returns-clause-yes c = λ yes'. subst (λ (l : List Weather). All (λ (w : Weather). w.from ≡ c.args.me) l) (take_all c.loop-it.it-index c.args.weather.now c.loop-it-test.false) c.loop-it.invariant

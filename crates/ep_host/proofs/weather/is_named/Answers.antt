use Rattle.std.proofs.Common.{All, subst, List, refl}
use Rattle.std.proofs.lemmas.List.{take_all}
use Rattle.std.proofs.lemmas.List.Elements.{All-nil, All-more}
use Rattle.ep_host.specs.Weathers.{NameOne}
use Rattle.ep_host.specs.declared.weather.Weather.{Weather}
use Rattle.ep_host.proofs.weather.is_named.Goals as goal

pub loop-other-init : goal.loop-other-init
loop-other-init c = All-nil (λ (v : Weather). NameOne v c.args.it.now → ⊥)

pub loop-other-preserved : goal.loop-other-preserved
loop-other-preserved c = All-more (λ (v : Weather). NameOne v c.args.it.now → ⊥) c.args.weather.now c.loop-other.other-index c.other-item.result c.loop-other-test.true c.loop-other.invariant
    (subst (λ (v : Weather). NameOne v c.args.it.now → ⊥) c.other-item.is (c.if-name_one.ensures.no refl))

pub returns-clause-no : goal.returns-clause-no
returns-clause-no c = λ is. subst (λ (l : List Weather). All (λ (v : Weather). NameOne v c.args.it.now → ⊥) l) (take_all c.loop-other.other-index c.args.weather.now c.loop-other-test.false) c.loop-other.invariant

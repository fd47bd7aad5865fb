use Rattle.std.proofs.Common.{◌∷◌, ◌++◌, [], List, ap, ◌∙◌, sym, arith, take}
use Rattle.std.proofs.lemmas.List.{take_all, take_more}
use Rattle.ep_host.specs.declared.weather.Weather.{Weather}
use Rattle.ep_host.proofs.setting.replace.Goals as goal

pub loop-it-init : goal.loop-it-init
loop-it-init c = record { items = c.clear.ensures.items; len = c.clear.ensures.len; room = omega (arith, c.requires, c.clear.ensures.capacity) }

pub push_reserved-requires : goal.push_reserved-requires
push_reserved-requires c = let i = c.loop-it.invariant in omega (arith, i.len, i.room, c.loop-it-test.true)

pub loop-it-preserved : goal.loop-it-preserved
loop-it-preserved c = let i = c.loop-it.invariant in let w = c.it-item.result in record {
  items = c.push_reserved.ensures.items ∙ ap (λ (l : List Weather). l ++ w ∷ []) i.items ∙ ap (λ (v : Weather). take c.loop-it.it-index c.args.list.now ++ v ∷ []) c.it-item.is ∙ sym (take_more c.args.list.now c.loop-it.it-index w c.loop-it-test.true);
  len = omega (arith, c.push_reserved.ensures.len, i.len);
  room = omega (arith, c.push_reserved.ensures.capacity, i.room);
}

pub returns : goal.returns
returns c = c.loop-it.invariant.items ∙ take_all c.loop-it.it-index c.args.list.now c.loop-it-test.false

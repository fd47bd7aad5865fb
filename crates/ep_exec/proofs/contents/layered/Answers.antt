use Rattle.std.proofs.Common.{◌≡◌, ◌≤◌, ◌∙◌, inr, length, sym, subst}
use Rattle.std.specs.FinMap.{entries}
use Rattle.ep_rules.specs.OneMap.{Contents}
use Rattle.ep_exec.proofs.Layered.{one_layer}
use Rattle.ep_exec.proofs.contents.layered.Goals as goal

pub sink-requires : goal.sink-requires
sink-requires c = subst (λ (m : Contents). length (entries m) ≤ 4000000000)
    (sym (one_layer c.args.ground c.push_reserved.new.self.items c.reserve.new.self.items c.args.layers.items c.in_ok-layer.layer c.args.changes c.push_reserved.ensures.items c.in_ok-reserve.ensures.items c.in_ok-layer.ensures.ok))
    c.requires

pub invariant_of-result : goal.invariant_of-result
invariant_of-result c = inr (subst (λ (m : Contents). length (entries m) ≤ 4000000000)
    (sym (c.sink.ensures ∙ one_layer c.args.ground c.push_reserved.new.self.items c.reserve.new.self.items c.args.layers.items c.in_ok-layer.layer c.args.changes c.push_reserved.ensures.items c.in_ok-reserve.ensures.items c.in_ok-layer.ensures.ok))
    c.requires)

pub returns : goal.returns
returns c =
    c.sink.ensures ∙ one_layer c.args.ground c.push_reserved.new.self.items c.reserve.new.self.items c.args.layers.items c.in_ok-layer.layer c.args.changes c.push_reserved.ensures.items c.in_ok-reserve.ensures.items c.in_ok-layer.ensures.ok

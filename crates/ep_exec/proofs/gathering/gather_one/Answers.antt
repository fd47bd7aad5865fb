use Rattle.std.proofs.Common.{◌≡◌, ◌∙◌, ◌∷◌, ◌+◌, List, drop, sym, ap}
use Rattle.ep_exec.specs.Layers.{layers_of, stacked}
use Rattle.ep_exec.specs.Settling.{with_rest}
use Rattle.ep_exec.specs.Table.{Entry, over}
use Rattle.ep_exec.proofs.Gathered.{at_here, layer_at, next_layer}
use Rattle.ep_exec.proofs.gathering.gather_one.Goals as goal

pub returns-then-gathering-eq0 : goal.returns-then-gathering-eq0
returns-then-gathering-eq0 c = λ since was m.
    let g = c.args.gathering.now in
    let ls : List (List Entry) = layers_of c.args.layers.now in
    let at = at_here c.args.layers.now g.done c.in-Some.layer.now c.in-Some.ensures.lookup.0 c.in-Some.ensures.lookup.1 in
    let is = layer_at c.args.layers.now g.done c.in-Some.layer.now at in
    next_layer (over m g.tree.entries) (stacked (over m since) ls) (drop g.done ls) (drop (g.done + 1) ls) _ g.left c.len_at-gathering.result is c.if-gathering-eq0.true c.len_at-gathering.ensures (was m)

pub returns : goal.returns
returns c = λ since was m.
    let g = c.args.gathering.now in
    let h = c.take_one.new.gathering in
    let ls : List (List Entry) = layers_of c.args.layers.now in
    let rest : List (List Entry) = drop (g.done + 1) ls in
    let at = at_here c.args.layers.now g.done c.in-Some.layer.now c.in-Some.ensures.lookup.0 c.in-Some.ensures.lookup.1 in
    let same : drop g.done ls ≡ c.deref.result.now.entries ∷ rest = layer_at c.args.layers.now g.done c.in-Some.layer.now at ∙ (λ i. (sym c.deref.ensures i).entries ∷ rest) in
    let n = over m g.tree.entries in
    let p = over m h.tree.entries in
    (λ i. with_rest p h.left (drop (c.take_one.ensures.done i) ls))
    ∙ ap (λ (xs : List (List Entry)). with_rest p h.left xs) same
    ∙ c.take_one.ensures.keeps m (stacked (over m since) ls) rest (ap (λ (xs : List (List Entry)). with_rest n g.left xs) (sym same) ∙ was m)

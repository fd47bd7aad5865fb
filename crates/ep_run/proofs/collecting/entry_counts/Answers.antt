use Rattle.std.proofs.Common.{◌≡◌, ◌∙◌, ℕ, List, [], ◌∷◌, ◌++◌, take, add-one, ap, sym}
use Rattle.std.proofs.Math.Seq.{take-suc}
use Rattle.std.proofs.lemmas.List.{take_all}
use Rattle.ep_run.specs.Rings.{entry_counts}
use Rattle.ep_run.proofs.Running.{counts_more}
use Rattle.ep_run.proofs.collecting.entry_counts.Goals as goal

pub loop-node-preserved : goal.loop-node-preserved
loop-node-preserved c =
    let done = take c.loop-node.node-index c.args.nodes.now in
    rw (add-one, take-suc c.args.nodes.now c.loop-node.node-index c.node-item.result c.loop-node-test.true, ← c.node-item.is)
    (c.in_ok-push.ensures.items ∙ ap (λ (l : List ℕ). l ++ c.in_ok-count.count ∷ []) c.loop-node.invariant ∙ ap (λ (k : ℕ). entry_counts done ++ k ∷ []) c.in_ok-count.ensures
    ∙ sym (counts_more done c.node-item.result))

pub returns : goal.returns
returns c = c.loop-node.invariant ∙ ap entry_counts (take_all c.loop-node.node-index c.args.nodes.now c.loop-node-test.false)

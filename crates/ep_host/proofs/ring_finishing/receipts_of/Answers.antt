use Rattle.std.proofs.Common.{◌≡◌, ◌∙◌, arith, ap, length, take, add-one}
use Rattle.std.proofs.Math.Seq.{take-suc, take-length}
use Rattle.ep_host.specs.RingFinishing.{replicas_in, their_receipts}
use Rattle.ep_host.proofs.Accepting.{receipts_more}
use Rattle.ep_host.proofs.ring_finishing.receipts_of.Goals as goal

pub loop-node-preserved : goal.loop-node-preserved
loop-node-preserved c =
    let done = take c.loop-node.node-index c.args.nodes.now in
    rw (add-one, take-suc c.args.nodes.now c.loop-node.node-index c.node-item.result c.loop-node-test.true, ← c.node-item.is)
    (receipts_more done c.node-item.result c.loop-node.receipts.items c.add_receipts.new.receipts.items c.loop-node.invariant c.in_ok-add_receipts.ensures)

pub returns : goal.returns
returns c =
    let at : c.loop-node.node-index ≡ length c.args.nodes.now = omega arith in
    c.loop-node.invariant ∙ ap (λ n. their_receipts (replicas_in (take n c.args.nodes.now))) at ∙ ap (λ nodes. their_receipts (replicas_in nodes)) (take-length c.args.nodes.now)

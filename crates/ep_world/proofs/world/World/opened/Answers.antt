use Rattle.ep_world.proofs.Kept.{all_open, new_world}
use Rattle.ep_world.proofs.world.World.opened.Goals as goal

pub invariant_of-result : goal.invariant_of-result
invariant_of-result c =
    let ks = c.in_ok-replicas.replicas.items in
    let e = c.in_ok-replicas.ensures in
    let opens = all_open c.args.beginning.now ks e.version e.opening c.opening-opening.ensures.opens in
    let n = c.in_ok-notes in
    let steps = n.notes.steps.items in
    let messages = n.notes.messages.items in
    let none = n.ensures in
    (e.replicas, new_world c.args.cluster ks steps messages e.replicas opens e.entries none.steps none.messages)

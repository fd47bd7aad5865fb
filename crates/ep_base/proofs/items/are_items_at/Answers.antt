use Rattle.std.proofs.Common.{◌-◌, length, take, drop, ◌∙◌, arith}
use Rattle.std.proofs.lemmas.List.{take_rest}
use Rattle.ep_base.proofs.Saying.{counted_step}
use Rattle.ep_base.proofs.items.are_items_at.Goals as goal

pub loop-left-preserved : goal.loop-left-preserved
loop-left-preserved c =
    let b = c.loop-left.rest.now in
    let k = c.in-Some.found.1 in
    let some = c.loop-left-test.true in
    counted_step c.loop-left.left b (take (length b - k) (drop k b)) k (omega (arith, some)) c.in-Some.ensures.len (take_rest b k) ∙ c.loop-left.invariant

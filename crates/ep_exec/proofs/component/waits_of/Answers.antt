use Rattle.std.proofs.Common.{◌≡◌, ◌++◌, List, ℕ, ap, ◌∙◌}
use Rattle.ep_exec.specs.Cut.{left_in}
use Rattle.ep_exec.proofs.Nexts.{next_waits}
use Rattle.ep_exec.proofs.component.waits_of.Goals as goal

pub loop-instance-preserved : goal.loop-instance-preserved
loop-instance-preserved c =
    let xs = c.args.component.now in
    let own : c.append.new.self ≡ xs = c.in_ok-append.ensures ∙ ap (λ (ys : List ℕ). ys ++ xs) c.new-own.ensures in
    next_waits (left_in c.args.space.now.records c.args.skipped.now.list) xs c.append.new.self c.loop-instance.instance-index c.instance-item.result c.loop-instance.waits.items c.append_waits.new.list.items own c.loop-instance-test.true c.instance-item.is c.in_ok-append_waits.ensures c.loop-instance.invariant

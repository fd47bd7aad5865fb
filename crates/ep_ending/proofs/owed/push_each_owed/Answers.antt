use Rattle.std.proofs.Common.{◌≡◌, ◌+◌, ℕ, suc, subst, arith}
use Rattle.ep_base.specs.Instances.{instance_of}
use Rattle.ep_ending.specs.Endings.{AddsOwedBefore}
use Rattle.ep_ending.proofs.owed.push_each_owed.Goals as goal

pub loop-replica-preserved : goal.loop-replica-preserved
loop-replica-preserved c =
    let next : suc c.loop-replica.replica ≡ c.loop-replica.replica + 1 = omega arith in
    subst (λ (n : ℕ). AddsOwedBefore c.args.journals.now (instance_of n 0) c.args.text.now.items c.push_all_owed.new.text.items) next
    (c.in_ok-push_all_owed.ensures c.args.text.now.items c.loop-replica.invariant)

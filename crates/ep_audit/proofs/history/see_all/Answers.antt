use Rattle.std.proofs.Common.{◌≡◌, ◌↔◌, ◌⊎◌, ◌+◌, ℕ, suc, take, subst, arith}
use Rattle.ep_base.specs.Places.{Has}
use Rattle.ep_rules.specs.Steps.{order_of}
use Rattle.ep_audit.proofs.Lining.{seen_next}
use Rattle.ep_audit.proofs.history.see_all.Goals as goal

pub loop-instance-preserved : goal.loop-instance-preserved
loop-instance-preserved c =
    let k : ℕ = c.loop-instance.instance-index in
    let count : suc k ≡ k + 1 = omega arith in
    subst (λ n. (i : ℕ) → Has c.see.new.seen.list i ↔ (Has c.args.seen.now.list i ⊎ Has (order_of (take n c.args.done.now)) i)) count
    (seen_next c.args.seen.now.list c.loop-instance.seen.list c.see.new.seen.list c.args.done.now k c.loop-instance-item.result c.loop-instance-test.true c.loop-instance-item.is c.loop-instance.invariant c.in_ok-see.ensures)

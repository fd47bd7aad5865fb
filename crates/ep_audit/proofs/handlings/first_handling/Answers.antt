use Rattle.std.proofs.Common.{rules, ◌≡◌, ◌+◌, suc, arith, subst}
use Rattle.ep_audit.specs.Handlings.{first_below}
use Rattle.ep_audit.proofs.Handled.{next_looked, next_kept}
use Rattle.ep_audit.proofs.handlings.first_handling.Goals as goal
use Rattle.ep_audit.proofs.handlings.first_handling.Goals.{then-is_none, else-is_none}

pub loop-replica-preserved : goal.loop-replica-preserved
loop-replica-preserved c =
    let at : suc c.loop-replica.replica ≡ c.loop-replica.replica + 1 = omega arith in
    subst (λ n. c.if-is_none.found ≡ first_below c.args.journals.now n) at (elim c.if-is_none.branch [
      | then-is_none w ↦ next_looked c.args.journals.now c.loop-replica.replica c.loop-replica.found c.if-is_none.found c.loop-replica.invariant (search rules) (search rules)
      | else-is_none w ↦ next_kept c.args.journals.now c.loop-replica.replica c.loop-replica.found c.if-is_none.found c.loop-replica.invariant (search rules) (search rules)
    ])

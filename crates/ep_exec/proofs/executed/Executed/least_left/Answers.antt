use Rattle.std.proofs.Common.{◌∙◌, sym, subst, arith}
use Rattle.std.proofs.lemmas.Bool.{false≢true}
use Rattle.ep_base.specs.Places.{Has}
use Rattle.ep_exec.specs.Found.{IsLesser}
use Rattle.ep_exec.proofs.Least.{least_skip_at, least_take_at}
use Rattle.ep_exec.proofs.executed.Executed.least_left.Goals as goal
use Rattle.ep_exec.proofs.executed.Executed.least_left.Goals.{then-not-contains, else-not-contains}

pub loop-instance-preserved : goal.loop-instance-preserved
loop-instance-preserved c =
    let done = c.args.self.now.list in
    let x = c.instance-item.result in
    elim c.if-not-contains.branch [
      | then-not-contains w ↦ rw w.best-is (least_take_at (λ i. ¬ Has done i) c.args.list.now c.loop-instance.instance-index x c.loop-instance.best w.lesser.result (omega arith) c.loop-instance.invariant
          (subst (λ i. ¬ Has done i) c.instance-item.is (λ has. false≢true (sym w.if-not-contains.true ∙ c.contains.ensures.1 has))) (subst (λ y. IsLesser c.loop-instance.best y w.lesser.result) c.instance-item.is w.lesser.ensures))
      | else-not-contains w ↦ rw w.best-is (least_skip_at (λ i. ¬ Has done i) c.args.list.now c.loop-instance.instance-index x c.loop-instance.best (omega arith) c.loop-instance.invariant
          (λ p. p (subst (Has done) c.instance-item.is (c.contains.ensures.0 w.if-not-contains.false))))
    ]

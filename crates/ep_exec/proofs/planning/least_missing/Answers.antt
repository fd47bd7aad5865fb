use Rattle.std.proofs.Common.{◌≡◌, None, sym, subst, ◌∙◌, arith}
use Rattle.std.proofs.lemmas.Bool.{false≢true}
use Rattle.ep_rules.specs.States.{graph_in}
use Rattle.ep_exec.specs.Found.{IsLesser}
use Rattle.ep_exec.proofs.Least.{least_skip_at, least_take_at}
use Rattle.ep_exec.proofs.planning.least_missing.Goals as goal
use Rattle.ep_exec.proofs.planning.least_missing.Goals.{then-is_missing, else-is_missing}

pub loop-instance-preserved : goal.loop-instance-preserved
loop-instance-preserved c =
    let g = graph_in c.args.space.now.records in
    let x = c.instance-item.result in
    elim c.if-is_missing.branch [
      | then-is_missing w ↦ rw w.best-is (least_take_at (λ i. g i ≡ None) c.args.members.now c.loop-instance.instance-index x c.loop-instance.best w.lesser.result (omega arith) c.loop-instance.invariant
          (subst (λ i. g i ≡ None) c.instance-item.is (c.is_missing.ensures.0 w.if-is_missing.true)) (subst (λ y. IsLesser c.loop-instance.best y w.lesser.result) c.instance-item.is w.lesser.ensures))
      | else-is_missing w ↦ rw w.best-is (least_skip_at (λ i. g i ≡ None) c.args.members.now c.loop-instance.instance-index x c.loop-instance.best (omega arith) c.loop-instance.invariant
          (λ p. false≢true (sym w.if-is_missing.false ∙ c.is_missing.ensures.1 (subst (λ i. g i ≡ None) (sym c.instance-item.is) p))))
    ]

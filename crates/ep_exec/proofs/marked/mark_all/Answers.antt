use Rattle.std.proofs.Common.{ℕ, List, [], ◌∷◌, ◌++◌, take, sym, ap, subst, ◌∙◌}
use Rattle.std.proofs.lemmas.List.{take_more}
use Rattle.ep_exec.specs.Marks.{AreMarks}
use Rattle.ep_exec.proofs.marked.mark_all.Goals as goal

pub loop-instance-preserved : goal.loop-instance-preserved
loop-instance-preserved c =
    let xs = c.args.list.now in
    let i = c.loop-instance.instance-index in
    subst (λ (is : List ℕ). AreMarks is c.mark.new.marks.items) (ap (λ (x : ℕ). take i xs ++ x ∷ []) c.instance-item.is ∙ sym (take_more xs i c.instance-item.result c.loop-instance-test.true))
    (c.in_ok-mark.ensures.ok (take i xs) c.loop-instance.invariant)

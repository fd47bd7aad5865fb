use Rattle.std.proofs.Common.{◌≡◌, ℕ, ◌+◌, ◌∷◌, drop, sym, subst, ◌∙◌, ap, arith, List}
use Rattle.std.proofs.lemmas.List.{drop_all, drop_more}
use Rattle.ep_base.specs.declared.reply.Answer.{Answer}
use Rattle.ep_replica.specs.FirstExecutions.{HavePlaces}
use Rattle.ep_replica.proofs.first_executions.top_of.Goals as goal

pub loop-instance-preserved : goal.loop-instance-preserved
loop-instance-preserved c = λ me places less rest.
    let n : ℕ = c.loop-instance.instance-index in
    let ds : List (ℕ × Answer) = c.args.done.now in
    let d : ℕ × Answer = c.loop-instance-item.result in
    let own = c.number_at_least-top.ensures.own in
    let least = c.number_at_least-top.ensures.least in
    let left : drop n ds ≡ d ∷ drop (n + 1) ds = drop_more ds n d c.loop-instance-test.true ∙ ap (λ x. x ∷ drop (n + 1) ds) (sym c.loop-instance-item.is) in
    c.loop-instance.invariant me places (omega (arith, least, less)) (subst (HavePlaces me places) (sym left) ((λ leads. omega (arith, own, less)), rest))

pub returns : goal.returns
returns c = λ me places less.
    c.loop-instance.invariant me places less (subst (HavePlaces me places) (sym (drop_all c.loop-instance.instance-index c.args.done.now (let past = c.loop-instance-test.false in omega arith))) tt)

use Rattle.std.proofs.Common.{rules, ◌≡◌, ◌<◌, below_more, subst}
use Rattle.std.proofs.lemmas.Result.{err_from_is_err_and}
use Rattle.ep_base.specs.Quorums.{size}
use Rattle.ep_assemble.specs.Clusters.{IsNotOne, count_of}
use Rattle.ep_assemble.proofs.Checked.{miscounted}
use Rattle.ep_assemble.proofs.checking.check_counts.Goals as goal

pub returns-in_err-check_count-clause-other : goal.returns-in_err-check_count-clause-other
returns-in_err-check_count-clause-other c =
    let less : c.loop-index.index < size c.args.cluster = search rules in
    let not_one : IsNotOne c.in_err-check_count.field-0.0 c.loop-index.index c.args.journals.now = subst (λ k. IsNotOne c.in_err-check_count.field-0.0 k c.args.journals.now) c.replica_of.ensures c.in_err-check_count.ensures.other in
    let p = err_from_is_err_and c.from_residual.result c.from_residual.ensures.1 in
    rw (p.1, p.2) (miscounted _ _ _ _ less c.loop-index.invariant not_one)

pub loop-index-preserved : goal.loop-index-preserved
loop-index-preserved c =
    let one : count_of c.loop-index.index c.args.journals.now ≡ 1 = subst (λ k. count_of k c.args.journals.now ≡ 1) c.replica_of.ensures c.in_ok-check_count.ensures.once in
    below_more _ _ c.loop-index.invariant one

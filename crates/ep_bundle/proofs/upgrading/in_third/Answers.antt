use Rattle.std.proofs.Common.{List, ℕ, ◌∙◌, subst}
use Rattle.std.proofs.lemmas.Result.{err_from_is_err_and}
use Rattle.ep_bundle.specs.Respelled.{IsBundle, IsNoBundle}
use Rattle.ep_bundle.proofs.upgrading.in_third.Goals as goal

pub returns-in_err-check-clause-err : goal.returns-in_err-check-clause-err
returns-in_err-check-clause-err c =
    let p = err_from_is_err_and c.from_residual-in_err-check.result c.from_residual-in_err-check.ensures.1 in
    rw (p.1, p.2) (subst (λ (bs : List ℕ). IsNoBundle bs c.in_err-check.field-0.0) (c.deref.ensures.value ∙ c.in_ok-text.ensures) c.in_err-check.ensures.err)

pub returns-clause-ok : goal.returns-clause-ok
returns-clause-ok c = record { spelled = c.in_ok-text.ensures; bundle = subst IsBundle c.deref.ensures.value c.in_ok-check.ensures.ok }

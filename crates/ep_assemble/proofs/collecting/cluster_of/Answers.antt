use Rattle.std.proofs.Common.{sym}
use Rattle.std.proofs.lemmas.Result.{err_from_is_err_and}
use Rattle.ep_assemble.proofs.Checked.{incomplete, of_another}
use Rattle.ep_assemble.proofs.collecting.cluster_of.Goals as goal

pub returns-in-Some-other_place-clause-refused : goal.returns-in-Some-other_place-clause-refused
returns-in-Some-other_place-clause-refused c =
    of_another c.in-Some-other_place.place c.args.journals.now c.in-Some.first.now c.version-version.result c.opening.result.now c.size-cluster.result (sym c.in-Some.ensures.value) c.version-version.ensures c.opening.ensures.value c.size-cluster.ensures c.in-Some-other_place.ensures

pub returns-in_err-check_counts-clause-refused : goal.returns-in_err-check_counts-clause-refused
returns-in_err-check_counts-clause-refused c =
    let p = err_from_is_err_and c.from_residual.result c.from_residual.ensures.1 in
    rw (p.1, p.2) (incomplete c.in_err-check_counts.field-0.0 c.version-version.result c.opening.result.now c.size-cluster.result c.args.journals.now c.in_default-other_place.ensures c.in_err-check_counts.ensures.other)

pub returns-clause-of_one : goal.returns-clause-of_one
returns-clause-of_one c = (c.version-version.result, c.opening.result.now, record { members = c.in_default-other_place.ensures; once = c.in_ok-check_counts.ensures.once })

use Rattle.std.proofs.Common.{rules, ◌≡◌, ◌<◌, List, ℕ, length, subst}
use Rattle.std.proofs.lemmas.Result.{err_from_is_err_and}
use Rattle.ep_opening.specs.Bytes.{opening_bytes}
use Rattle.ep_assemble.specs.Generations.{IsNotOpened}
use Rattle.ep_assemble.proofs.Opened.{one_read, one_refused}
use Rattle.ep_assemble.proofs.openings.read_openings.Goals as goal

pub returns-in_err-file-clause-err : goal.returns-in_err-file-clause-err
returns-in_err-file-clause-err c =
    let less : c.loop-place.place < length c.args.kept.now = search rules in
    let p = err_from_is_err_and c.from_residual.result c.from_residual.ensures.1 in
    let h : IsNotOpened c.loop-place.place c.index-kept-place.result.opening.items c.in_err-file.field-0.0 =
    subst (λ (bs : List ℕ). IsNotOpened c.loop-place.place bs c.in_err-file.field-0.0) c.deref.ensures.value c.in_err-file.ensures.err in
    rw (p.1, p.2) (one_refused c.in_err-file.field-0.0 c.loop-place.place c.args.kept.now c.index-kept-place.result _ c.loop-place.files.items less c.index-kept-place.is c.loop-place.invariant h)

pub loop-place-preserved : goal.loop-place-preserved
loop-place-preserved c =
    let less : c.loop-place.place < length c.args.kept.now = search rules in
    let of : c.index-kept-place.result.opening.items ≡ opening_bytes c.in_ok-file.file = subst (λ (bs : List ℕ). bs ≡ opening_bytes c.in_ok-file.file) c.deref.ensures.value c.in_ok-file.ensures.ok in
    one_read c.loop-place.place c.args.kept.now c.index-kept-place.result _ c.loop-place.files.items c.push.new.self.items c.in_ok-file.file less c.index-kept-place.is c.loop-place.invariant of c.in_ok-push.ensures.items

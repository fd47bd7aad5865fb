use Rattle.std.proofs.Common.{rules, ◌≡◌, ◌⊎◌, ◌<◌, inl, ℕ, List, length, string_bytes, subst}
use Rattle.std.proofs.lemmas.Result.{err_from_is_err_and}
use Rattle.ep_assemble.specs.GenerationFiles.{IsOfLacking}
use Rattle.ep_server.specs.NamedFiles.{IsUnopened}
use Rattle.ep_server.proofs.FilesGiven.{counted}
use Rattle.ep_server.proofs.Gathered.{one_more_named, one_of_them}
use Rattle.ep_server.proofs.opened_logs.read_folders.Goals as goal

pub returns-in_err-one-clause-err : goal.returns-in_err-one-clause-err
returns-in_err-one-clause-err g c =
    let e = c.in_err-one.field-0.0 in
    let less : c.loop-place.place < length c.args.folders.now = search rules in
    let folder : c.deref.result.now ≡ string_bytes c.index-folders-place.result = search rules in
    let opening : c.deref-in-loop-place.result.now ≡ string_bytes c.index-openings-place.result = search rules in
    let log : c.deref-in-loop-place-2.result.now ≡ string_bytes c.index-logs-place.result = search rules in
    let p = err_from_is_err_and c.from_residual.result c.from_residual.ensures.1 in
    let h : IsOfLacking (string_bytes c.index-openings-place.result) e ⊎ IsOfLacking (string_bytes c.index-logs-place.result) e ⊎ IsUnopened (string_bytes c.index-folders-place.result) e =
    subst (λ (n : List ℕ). IsOfLacking (string_bytes c.index-openings-place.result) e ⊎ IsOfLacking (string_bytes c.index-logs-place.result) e ⊎ IsUnopened n e) folder
    (subst (λ (n : List ℕ). IsOfLacking (string_bytes c.index-openings-place.result) e ⊎ IsOfLacking n e ⊎ IsUnopened c.deref.result.now e) log
    (subst (λ (n : List ℕ). IsOfLacking n e ⊎ IsOfLacking c.deref-in-loop-place-2.result.now e ⊎ IsUnopened c.deref.result.now e) opening c.in_err-one.ensures.err)) in
    rw (p.1, p.2)
    (one_of_them string_bytes e c.loop-place.place c.args.folders.now c.args.openings.now c.args.logs.now c.index-folders-place.result c.index-openings-place.result c.index-logs-place.result _ _ _ c.requires.openings
    c.requires.logs less c.index-folders-place.is c.index-openings-place.is c.index-logs-place.is h)

pub returns-in_err-keep-clause-err : goal.returns-in_err-keep-clause-err
returns-in_err-keep-clause-err g c =
    let p = err_from_is_err_and c.from_residual-in_err-keep.result c.from_residual-in_err-keep.ensures.1 in
    rw (p.1, p.2) (inl tt)

pub loop-place-preserved : goal.loop-place-preserved
loop-place-preserved g c = (
  counted c.loop-place.place c.loop-place.kept.items _ c.in_ok-one.one c.loop-place.invariant.0 c.in_ok-keep.ensures,
  one_more_named c.loop-place.kept.items _ c.in_ok-one.one c.loop-place.invariant.1 c.in_ok-one.ensures.named c.in_ok-keep.ensures,
)

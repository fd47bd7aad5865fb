use Rattle.std.proofs.Common.{rules, ◌≡◌, ◌<◌, ℕ, List, length, string_bytes, subst}
use Rattle.std.proofs.lemmas.Result.{err_from_is_err_and}
use Rattle.ep_cli.specs.Files.{IsOfFile}
use Rattle.ep_cli.proofs.NotRead.{not_file}
use Rattle.ep_cli.proofs.files.read_files.Goals as goal

pub returns-in_err-bytes-clause-err : goal.returns-in_err-bytes-clause-err
returns-in_err-bytes-clause-err g c =
    let less : c.loop-name.name-index < length c.args.names.now = search rules in
    let named : c.deref.result.now ≡ string_bytes c.name-item.result = search rules in
    let p = err_from_is_err_and c.from_residual.result c.from_residual.ensures.1 in
    let h : IsOfFile (string_bytes c.name-item.result) c.in_err-bytes.field-0.0 = subst (λ (n : List ℕ). IsOfFile n c.in_err-bytes.field-0.0) named c.in_err-bytes.ensures in
    rw (p.1, p.2) (not_file string_bytes c.in_err-bytes.field-0.0 c.loop-name.name-index c.args.names.now c.name-item.result _ less c.name-item.is h)

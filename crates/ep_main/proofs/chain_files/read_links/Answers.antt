use Rattle.std.proofs.Common.{rules, ◌≡◌, ◌<◌, ◌++◌, ◌∷◌, [], ℕ, List, length, length-append, string_bytes, sym, ap, subst, arith}
use Rattle.ep_audit.specs.declared.chain_link.ChainLink.{ChainLink}
use Rattle.std.proofs.lemmas.Result.{err_from_is_err_and}
use Rattle.ep_main.specs.Chains.{AreRead, IsNoFile}
use Rattle.ep_main.proofs.Linked.{read_more, stopped_at}
use Rattle.ep_main.proofs.chain_files.read_links.Goals as goal

pub returns-in_err-reserve-clause-err : goal.returns-in_err-reserve-clause-err
returns-in_err-reserve-clause-err g c =
    let p = err_from_is_err_and c.from_residual.result c.from_residual.ensures.1 in
    rw (p.1, p.2) tt

pub returns-in_err-read_link-clause-err : goal.returns-in_err-read_link-clause-err
returns-in_err-read_link-clause-err g c =
    let less : c.loop-name.name-index < length c.args.names.now = search rules in
    let named : c.deref.result.now ≡ string_bytes c.name-item.result = search rules in
    let p = err_from_is_err_and c.from_residual-in_err-read_link.result c.from_residual-in_err-read_link.ensures.1 in
    let h : IsNoFile (string_bytes c.name-item.result) c.in_err-read_link.field-0.0 = subst (λ (n : List ℕ). IsNoFile n c.in_err-read_link.field-0.0) named c.in_err-read_link.ensures.err in
    rw (p.1, p.2) (stopped_at string_bytes c.in_err-read_link.field-0.0 c.loop-name.name-index c.args.names.now c.name-item.result _ less c.name-item.is h)

pub loop-name-preserved : goal.loop-name-preserved
loop-name-preserved g c =
    let before : List ChainLink = c.loop-name.links.items in
    let link : ChainLink = c.in_ok-read_link.field-0 in
    let more : c.push_reserved.new.self.items ≡ before ++ link ∷ [] = search rules in
    let size : length c.push_reserved.new.self.items ≡ length (before ++ link ∷ []) = ap length more in
    record { count = omega (arith, size, length-append before (link ∷ []), c.loop-name.invariant.count); read = subst AreRead (sym more) (read_more before link c.loop-name.invariant.read c.in_ok-read_link.ensures.ok) }

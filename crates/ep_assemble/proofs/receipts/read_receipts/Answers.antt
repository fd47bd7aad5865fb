use Rattle.std.proofs.Common.{rules, ◌≡◌, ◌<◌, ◌++◌, ℕ, List, length, subst}
use Rattle.std.proofs.lemmas.Result.{err_from_is_err_and}
use Rattle.ep_base.specs.Quorums.{size}
use Rattle.ep_rules.specs.declared.receipt.Receipt.{Receipt}
use Rattle.ep_assemble.specs.Receipts.{Hold, IsNotHeld}
use Rattle.ep_assemble.proofs.Held.{file_held, file_unheld}
use Rattle.ep_assemble.proofs.receipts.read_receipts.Goals as goal

pub returns-in_err-end-clause-err : goal.returns-in_err-end-clause-err
returns-in_err-end-clause-err c =
    let less : c.loop-place.place < length c.args.files.now = search rules in
    let p = err_from_is_err_and c.from_residual.result c.from_residual.ensures.1 in
    let h : IsNotHeld c.args.version (size c.args.cluster) c.loop-place.place c.index-files-place.result.items c.in_err-end.field-0.0 =
    subst (λ (bs : List ℕ). IsNotHeld c.args.version (size c.args.cluster) c.loop-place.place bs c.in_err-end.field-0.0) c.deref.ensures.value c.in_err-end.ensures.err in
    rw (p.1, p.2)
    (file_unheld c.args.version (size c.args.cluster) c.in_err-end.field-0.0 c.loop-place.place c.args.files.now c.index-files-place.result _ c.loop-place.receipts.items c.loop-place.ends.items less
    c.index-files-place.is c.loop-place.invariant h)

pub loop-place-preserved : goal.loop-place-preserved
loop-place-preserved c =
    let less : c.loop-place.place < length c.args.files.now = search rules in
    let h : (more : List Receipt) × Hold c.args.version (size c.args.cluster) c.index-files-place.result.items more c.in_ok-end.end × (c.read_one.new.receipts.items ≡ c.loop-place.receipts.items ++ more) =
    subst
    (λ (bs : List ℕ). (more : List Receipt) × Hold c.args.version (size c.args.cluster) bs more c.in_ok-end.end × (c.read_one.new.receipts.items ≡ c.loop-place.receipts.items ++ more)) c.deref.ensures.value
    c.in_ok-end.ensures.ok in
    file_held c.args.version (size c.args.cluster) c.loop-place.place c.args.files.now c.index-files-place.result _ c.loop-place.receipts.items c.read_one.new.receipts.items c.loop-place.ends.items
    c.push.new.self.items c.in_ok-end.end less c.index-files-place.is c.loop-place.invariant h c.in_ok-push.ensures.items

use Rattle.std.proofs.Common.{rules, ◌≡◌, ℕ, List, false, refl}
use Rattle.std.proofs.lemmas.Result.{err_from_is_err_and}
use Rattle.ep_base.specs.Quorums.{size}
use Rattle.ep_assemble.specs.Receipts.{is_cut}
use Rattle.ep_assemble.proofs.Held.{Next, goes_on, is_refused}
use Rattle.ep_assemble.proofs.receipts.push_receipts.Goals as goal

pub returns-in_err-receipt-clause-err : goal.returns-in_err-receipt-clause-err
returns-in_err-receipt-clause-err c =
    let tail : List ℕ = c.loop-version.source.inner.now in
    let not_cut : is_cut c.args.version tail ≡ false = search rules in
    let p = err_from_is_err_and c.from_residual.result c.from_residual.ensures.1 in
    rw (p.1, p.2)
    (is_refused c.args.version (size c.args.cluster) c.args.bytes.now c.args.receipts.now.items c.loop-version.receipts.items c.loop-version.place c.read_receipt.new.place tail c.in_err-receipt.field-0.0 _
    c.loop-version.invariant not_cut (c.in_err-receipt.ensures.bytes tail refl))

pub loop-version-smaller : goal.loop-version-smaller
loop-version-smaller c =
    let tail : List ℕ = c.loop-version.source.inner.now in
    let next : Next c.args.version (size c.args.cluster) c.args.bytes.now c.args.receipts.now.items c.push.new.self.items c.read_receipt.new.place c.read_receipt.new.source.inner.now tail =
    goes_on c.args.version (size c.args.cluster) c.args.bytes.now c.args.receipts.now.items c.loop-version.receipts.items c.push.new.self.items c.loop-version.place c.read_receipt.new.place tail
    c.read_receipt.new.source.inner.now c.in_ok-receipt.receipt _ c.loop-version.invariant (c.in_ok-receipt.ensures.bytes tail refl) refl c.in_ok-push.ensures.items in
    next.shorter

pub loop-version-preserved : goal.loop-version-preserved
loop-version-preserved c =
    let tail : List ℕ = c.loop-version.source.inner.now in
    let next : Next c.args.version (size c.args.cluster) c.args.bytes.now c.args.receipts.now.items c.push.new.self.items c.read_receipt.new.place c.read_receipt.new.source.inner.now tail =
    goes_on c.args.version (size c.args.cluster) c.args.bytes.now c.args.receipts.now.items c.loop-version.receipts.items c.push.new.self.items c.loop-version.place c.read_receipt.new.place tail
    c.read_receipt.new.source.inner.now c.in_ok-receipt.receipt _ c.loop-version.invariant (c.in_ok-receipt.ensures.bytes tail refl) refl c.in_ok-push.ensures.items in
    next.holding

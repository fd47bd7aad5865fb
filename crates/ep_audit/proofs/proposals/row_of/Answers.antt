use Rattle.std.proofs.Common.{◌≡◌, ℕ, suc, ◌-◌, List, length, Some, slice_get, refl, sym, subst, arith}
use Rattle.std.proofs.lemmas.Option.{slice_get_read}
use Rattle.ep_journal.specs.declared.entry.Entry.{Entry}
use Rattle.ep_audit.specs.Proposing.{IsRowFrom}
use Rattle.ep_audit.proofs.Rows.{row_more}
use Rattle.ep_audit.proofs.proposals.row_of.Goals as goal

pub loop-place-preserved : goal.loop-place-preserved
loop-place-preserved c =
    let k : ℕ = c.loop-place.place - 1 in
    let es : List Entry = c.args.entries.now in
    let e : Entry = c.index-entries-place.result in
    let next : c.loop-place.place ≡ suc k = omega arith in
    let at : slice_get es k ≡ Some e = slice_get_read es (length es) k e refl (omega arith) c.index-entries-place.is in
    row_more c.args.replica k es e c.loop-place.places.items c.mark.new.places.items at c.in_ok-mark.ensures (subst (λ n. IsRowFrom c.args.replica n es c.loop-place.places.items) next c.loop-place.invariant)

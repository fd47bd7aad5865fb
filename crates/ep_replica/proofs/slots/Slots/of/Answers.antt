use Rattle.std.proofs.Common.{◌≡◌, ℕ, ◌+◌, List, [], ◌∷◌, ◌++◌, take, sym, ap, subst, ◌∙◌}
use Rattle.std.proofs.lemmas.List.{take_more}
use Rattle.ep_journal.specs.declared.entry.Entry.{Entry}
use Rattle.ep_replica.specs.Slots.{HoldsProposals}
use Rattle.ep_replica.proofs.slots.Slots.of.Goals as goal

pub note-requires : goal.note-requires
note-requires c = record { room = c.proposed_in.ensures c.args.me c.reserve.new.self c.in_ok-reserve.ensures.room }

pub loop-entry-preserved : goal.loop-entry-preserved
loop-entry-preserved c =
    let n : ℕ = c.loop-entry.entry-index in
    let es : List Entry = c.args.entries.now in
    let e : Entry = c.entry-item.result in
    let more : take (n + 1) es ≡ take n es ++ (e ∷ []) = take_more es n e c.loop-entry-test.true ∙ ap (λ (x : Entry). take n es ++ (x ∷ [])) (sym c.entry-item.is) in
    subst (λ (xs : List Entry). HoldsProposals c.args.me xs c.note.new.self) (sym more) (c.note.ensures.reported (take n es) (c.reserve.ensures.reports c.args.me (take n es) c.loop-entry.invariant))

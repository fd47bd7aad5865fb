use Rattle.std.proofs.Common.{◌≡◌, ◌∙◌, ◌+◌, ◌++◌, ◌∷◌, [], List, take, ap, sym, subst, append_assoc}
use Rattle.std.proofs.lemmas.List.{take_more}
use Rattle.ep_rules.specs.declared.receipt.Receipt.{Receipt as Reported}
use Rattle.ep_replay.specs.Tables.{AreCounted}
use Rattle.ep_replay.proofs.clients.Clients.note_all.Goals as goal

pub loop-receipt-preserved : goal.loop-receipt-preserved
loop-receipt-preserved c = λ ps ts are.
    let rs = c.args.receipts.now in
    let i = c.loop-receipt.receipt-index in
    let t = c.receipt-item.result in
    let one : take (i + 1) rs ≡ take i rs ++ t ∷ [] = take_more rs i t c.loop-receipt-test.true ∙ ap (λ (x : Reported). take i rs ++ x ∷ []) (sym c.receipt-item.is) in
    subst (λ (us : List Reported). AreCounted c.note.new.self ps us) (append_assoc ts (take i rs) (t ∷ []) ∙ ap (λ (us : List Reported). ts ++ us) (sym one)) (c.in_ok-note.ensures ps (ts ++ take i rs) (c.loop-receipt.invariant ps ts are))

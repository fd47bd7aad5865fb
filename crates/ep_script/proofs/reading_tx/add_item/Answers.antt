use Rattle.std.proofs.Common.{◌≡◌, ◌∷◌, Some, ap, sym, ◌∙◌}
use Rattle.std.specs.Prelude.{option_and_then}
use Rattle.ep_script.specs.Clauses.{merged}
use Rattle.ep_script.specs.Grammar.{items_after, short_clause}
use Rattle.ep_script.specs.Parts.{words_of}
use Rattle.ep_script.proofs.TxWords.{short_said, so_of}
use Rattle.ep_script.proofs.reading_tx.add_item.Goals as goal

pub returns-in-Some-short_clause-clause-value : goal.returns-in-Some-short_clause-clause-value
returns-in-Some-short_clause-clause-value c =
    let is = c.args.items.now in
    let w = c.args.word.now in
    let k = c.in-Some.key.now in
    let some : short_clause w ≡ Some c.in-Some-short_clause.clause = sym c.in-Some-short_clause.ensures in
    let said = ap (λ ws. items_after is (w ∷ ws)) c.in-Some.ensures.words ∙ ap (option_and_then (merged is)) (short_said w k c.in-Some-short_clause.clause (words_of c.in-Some.rest.now) some) in
    so_of c.add_short.result _ _ _ said c.add_short.ensures.value

use Rattle.std.proofs.Common.{◌≡◌, ◌∷◌, None, Some, ap, sym, ◌∙◌, rules}
use Rattle.std.specs.Prelude.{option_and_then}
use Rattle.ep_script.specs.Clauses.{merged}
use Rattle.ep_script.specs.Grammar.{items_after, said_first, clauses_of, long_clause}
use Rattle.ep_script.specs.Parts.{words_of}
use Rattle.ep_script.proofs.TxWords.{long_said, long_unlike, so_of}
use Rattle.ep_script.proofs.reading_tx.add_long.Goals as goal

pub returns-in_default-2-clause-value : goal.returns-in_default-2-clause-value
returns-in_default-2-clause-value c =
    let is = c.args.items.now in
    let w = c.args.word.now in
    let k = c.args.key.now in
    let v = c.in-Some.value.now in
    let none : long_clause w v ≡ None = sym c.in_ok-clause.ensures ∙ c.in_default-2.is in
    ap (λ ws. items_after is (w ∷ k ∷ ws)) c.in-Some.ensures.words ∙ ap (option_and_then (merged is)) (long_unlike w k v (words_of c.in-Some.rest.now) c.requires none)

pub returns-clause-value : goal.returns-clause-value
returns-clause-value c =
    let is = c.args.items.now in
    let w = c.args.word.now in
    let k = c.args.key.now in
    let v = c.in-Some.value.now in
    let rest = words_of c.in-Some.rest.now in
    let some : long_clause w v ≡ Some c.in-Some-2.clause = sym c.in_ok-clause.ensures ∙ c.in-Some-2.is in
    let said = ap (λ ws. items_after is (w ∷ k ∷ ws)) c.in-Some.ensures.words ∙ ap (option_and_then (merged is)) (long_said w k v rest c.requires ∙ ap (λ o. said_first k o (clauses_of rest)) some) in
    so_of c.add_short.result _ _ _ said c.add_short.ensures.value

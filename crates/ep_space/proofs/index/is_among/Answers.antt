use Rattle.std.proofs.Common.{◌≡◌, ◌<◌, ◌∙◌, Some, ap, sym, subst, length, arith, rules, eqb, true≢false}
use Rattle.std.specs.Prelude.{slice_get}
use Rattle.std.proofs.lemmas.Bool.{eq-eqb, eqb-true}
use Rattle.std.proofs.lemmas.Option.{slice_get-get_or, same_Some}
use Rattle.ep_base.specs.Places.{Has}
use Rattle.ep_space.proofs.Rising.{at_count, count_member, Has-at}
use Rattle.ep_space.proofs.index.is_among.Goals as goal

pub returns-then-run-at-clause-absent : goal.returns-then-run-at-clause-absent
returns-then-run-at-clause-absent c = λ no has.
    let few = count_member c.args.id c.args.run.now c.requires has in
    let at = c.position-at.ensures.value in
    let past = c.if-run-at.true in
    omega (arith, few, at, past)

pub returns-clause-there : goal.returns-clause-there
returns-clause-there c = λ yes.
    let xs = c.args.run.now in
    let n = c.position-at.result in
    let x = c.index-run-at.result in
    let past = c.if-run-at.false in
    let inside : n < length xs = omega (arith, past) in
    let at : slice_get xs n ≡ Some x = slice_get-get_or xs n x inside ∙ ap Some (sym c.index-run-at.is) in
    let is : c.eq.result ≡ eqb x c.args.id = search rules in
    subst (Has xs) (eqb-true x c.args.id (sym is ∙ yes)) (Has-at xs n x at)

pub returns-clause-absent : goal.returns-clause-absent
returns-clause-absent c = λ no has.
    let xs = c.args.run.now in
    let n = c.position-at.result in
    let x = c.index-run-at.result in
    let past = c.if-run-at.false in
    let inside : n < length xs = omega (arith, past) in
    let at : slice_get xs n ≡ Some x = slice_get-get_or xs n x inside ∙ ap Some (sym c.index-run-at.is) in
    let is : c.eq.result ≡ eqb x c.args.id = search rules in
    let there : slice_get xs n ≡ Some c.args.id = ap (slice_get xs) c.position-at.ensures.value ∙ at_count c.args.id xs c.requires has in
    true≢false (sym (eq-eqb x c.args.id (same_Some x c.args.id (sym at ∙ there))) ∙ sym is ∙ no)

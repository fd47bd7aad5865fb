use Rattle.std.proofs.Common.{rules, ◌≡◌, ◌∙◌, inl, refl, sym, subst, Some, None, IfOk, codes}
use Rattle.clap.specs.Matches.{found_of, first_value}
use Rattle.clap.proofs.WalkLemmas.{first_value-rows}
use Rattle.ep_main.specs.Words.{NamesForm}
use Rattle.ep_main.proofs.Literals.{form_as, no_form}
use Rattle.ep_main.proofs.command_line.form_of.Goals as goal

pub returns-in-Some-clause-named : goal.returns-in-Some-clause-named
returns-in-Some-clause-named c form names =
    let first : Some c.in-Some.what.now ≡ first_value (found_of c.args.options.now) (codes "emit") = search rules in
    form_as form c.in-Some.what.now _ _ (first ∙ first_value-rows (found_of c.args.options.now) (codes "emit")) c.form_named.ensures.lines c.form_named.ensures.json names

pub returns-in-None-clause-named : goal.returns-in-None-clause-named
returns-in-None-clause-named c form names =
    let first : None ≡ first_value (found_of c.args.options.now) (codes "emit") = search rules in
    no_form form _ _ refl (first ∙ first_value-rows (found_of c.args.options.now) (codes "emit")) names

pub returns-in-Some-clause-only : goal.returns-in-Some-clause-only
returns-in-Some-clause-only c =
    let first : Some c.in-Some.what.now ≡ first_value (found_of c.args.options.now) (codes "emit") = search rules in
    subst (λ o. IfOk c.form_named.result (NamesForm o)) (first ∙ first_value-rows (found_of c.args.options.now) (codes "emit")) c.form_named.ensures.only

pub returns-in-None-clause-only : goal.returns-in-None-clause-only
returns-in-None-clause-only c =
    let first : None ≡ first_value (found_of c.args.options.now) (codes "emit") = search rules in
    inl (sym (first ∙ first_value-rows (found_of c.args.options.now) (codes "emit")))

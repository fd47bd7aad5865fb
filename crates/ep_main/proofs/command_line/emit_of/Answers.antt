use Rattle.std.proofs.Common.{rules, ◌≡◌, ◌∙◌, inl, refl, sym, subst, Some, None, IfOk, codes}
use Rattle.clap.specs.Matches.{found_of, first_value}
use Rattle.clap.proofs.WalkLemmas.{first_value-rows}
use Rattle.ep_main.specs.Words.{Names}
use Rattle.ep_main.proofs.Literals.{named_as, not_named}
use Rattle.ep_main.proofs.command_line.emit_of.Goals as goal

pub returns-in-Some-clause-named : goal.returns-in-Some-clause-named
returns-in-Some-clause-named c emit names =
    let first : Some c.in-Some.what.now ≡ first_value (found_of c.args.options.now) (codes "emit") = search rules in
    named_as emit c.in-Some.what.now _ _ (first ∙ first_value-rows (found_of c.args.options.now) (codes "emit")) c.emit_named.ensures.report c.emit_named.ensures.json c.emit_named.ensures.bundle names

pub returns-in-None-clause-named : goal.returns-in-None-clause-named
returns-in-None-clause-named c emit names =
    let first : None ≡ first_value (found_of c.args.options.now) (codes "emit") = search rules in
    not_named emit _ _ refl (first ∙ first_value-rows (found_of c.args.options.now) (codes "emit")) names

pub returns-in-Some-clause-only : goal.returns-in-Some-clause-only
returns-in-Some-clause-only c =
    let first : Some c.in-Some.what.now ≡ first_value (found_of c.args.options.now) (codes "emit") = search rules in
    subst (λ o. IfOk c.emit_named.result (Names o)) (first ∙ first_value-rows (found_of c.args.options.now) (codes "emit")) c.emit_named.ensures.only

pub returns-in-None-clause-only : goal.returns-in-None-clause-only
returns-in-None-clause-only c =
    let first : None ≡ first_value (found_of c.args.options.now) (codes "emit") = search rules in
    inl (sym (first ∙ first_value-rows (found_of c.args.options.now) (codes "emit")))

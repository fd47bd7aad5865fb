use Rattle.std.proofs.Common.{rules, ◌≡◌, ◌∙◌, inl, refl, sym, subst, Some, None, IfOk, codes}
use Rattle.clap.specs.Matches.{found_of, first_value}
use Rattle.clap.proofs.WalkLemmas.{first_value-rows}
use Rattle.ep_main.specs.Words.{NamesTarget}
use Rattle.ep_main.proofs.Literals.{target_as, no_target}
use Rattle.ep_main.proofs.command_line.target_of.Goals as goal

pub returns-in-Some-clause-named : goal.returns-in-Some-clause-named
returns-in-Some-clause-named c target names =
    let first : Some c.in-Some.name.now ≡ first_value (found_of c.args.options.now) (codes "to") = search rules in
    target_as target c.in-Some.name.now _ _ (first ∙ first_value-rows (found_of c.args.options.now) (codes "to")) c.target_named.ensures.second c.target_named.ensures.third names

pub returns-in-None-clause-named : goal.returns-in-None-clause-named
returns-in-None-clause-named c target names =
    let first : None ≡ first_value (found_of c.args.options.now) (codes "to") = search rules in
    no_target target _ _ refl (first ∙ first_value-rows (found_of c.args.options.now) (codes "to")) names

pub returns-in-Some-clause-only : goal.returns-in-Some-clause-only
returns-in-Some-clause-only c =
    let first : Some c.in-Some.name.now ≡ first_value (found_of c.args.options.now) (codes "to") = search rules in
    subst (λ o. IfOk c.target_named.result (NamesTarget o)) (first ∙ first_value-rows (found_of c.args.options.now) (codes "to")) c.target_named.ensures.only

pub returns-in-None-clause-only : goal.returns-in-None-clause-only
returns-in-None-clause-only c =
    let first : None ≡ first_value (found_of c.args.options.now) (codes "to") = search rules in
    inl (sym (first ∙ first_value-rows (found_of c.args.options.now) (codes "to")))

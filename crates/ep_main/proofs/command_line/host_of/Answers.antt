use Rattle.std.proofs.Common.{rules, ◌≡◌, ◌∙◌, inl, refl, sym, subst, Some, None, IfOk, codes}
use Rattle.clap.specs.Matches.{found_of, first_value}
use Rattle.clap.proofs.WalkLemmas.{first_value-rows}
use Rattle.ep_main.specs.Words.{NamesHost}
use Rattle.ep_main.proofs.Choosing.{host_as, no_host}
use Rattle.ep_main.proofs.command_line.host_of.Goals as goal

pub returns-in-Some-clause-named : goal.returns-in-Some-clause-named
returns-in-Some-clause-named c host names =
    let first : Some c.in-Some.name.now ≡ first_value (found_of c.args.options.now) (codes "host") = search rules in
    host_as host c.in-Some.name.now _ _ (first ∙ first_value-rows (found_of c.args.options.now) (codes "host")) c.host_named.ensures.lock c.host_named.ensures.ring names

pub returns-in-None-clause-named : goal.returns-in-None-clause-named
returns-in-None-clause-named c host names =
    let first : None ≡ first_value (found_of c.args.options.now) (codes "host") = search rules in
    no_host host _ _ refl (first ∙ first_value-rows (found_of c.args.options.now) (codes "host")) names

pub returns-in-Some-clause-only : goal.returns-in-Some-clause-only
returns-in-Some-clause-only c =
    let first : Some c.in-Some.name.now ≡ first_value (found_of c.args.options.now) (codes "host") = search rules in
    subst (λ o. IfOk c.host_named.result (NamesHost o)) (first ∙ first_value-rows (found_of c.args.options.now) (codes "host")) c.host_named.ensures.only

pub returns-in-None-clause-only : goal.returns-in-None-clause-only
returns-in-None-clause-only c =
    let first : None ≡ first_value (found_of c.args.options.now) (codes "host") = search rules in
    inl (sym (first ∙ first_value-rows (found_of c.args.options.now) (codes "host")))

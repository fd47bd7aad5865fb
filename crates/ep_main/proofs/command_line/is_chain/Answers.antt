use Rattle.std.proofs.Common.{rules, ◌≡◌, ◌∙◌, sym, ap, Some, None, true, codes}
use Rattle.clap.specs.Matches.{found_of, first_value}
use Rattle.clap.specs.Walk.{Text}
use Rattle.clap.proofs.WalkLemmas.{first_value-rows}
use Rattle.ep_main.proofs.Literals.{some_is, none_isnt}
use Rattle.ep_main.proofs.command_line.is_chain.Goals as goal

pub returns-in-Some-clause-yes : goal.returns-in-Some-clause-yes
returns-in-Some-clause-yes c is =
    let first : Some c.in-Some.word.now ≡ first_value (found_of c.args.options.now) (codes "chain") = search rules in
    let same : c.in-Some.word.now ≡ codes "true" = search rules in
    sym (first ∙ first_value-rows (found_of c.args.options.now) (codes "chain")) ∙ ap (λ (w : Text). Some w) same

pub returns-in-Some-clause-other : goal.returns-in-Some-clause-other
returns-in-Some-clause-other c given =
    let first : Some c.in-Some.word.now ≡ first_value (found_of c.args.options.now) (codes "chain") = search rules in
    let same : c.in-Some.word.now ≡ codes "true" = some_is _ _ _ (first ∙ first_value-rows (found_of c.args.options.now) (codes "chain")) given in
    let is : c.eq.result ≡ true = search rules in
    is

pub returns-in-None-clause-other : goal.returns-in-None-clause-other
returns-in-None-clause-other c given =
    let first : None ≡ first_value (found_of c.args.options.now) (codes "chain") = search rules in
    absurd (none_isnt _ _ (first ∙ first_value-rows (found_of c.args.options.now) (codes "chain")) given)

use Rattle.std.proofs.Common.{rules, refl, ◌≡◌, ◌∙◌, Some, None, codes, option_map}
use Rattle.clap.specs.Matches.{found_of, matched_of, raw_values}
use Rattle.clap.specs.Walk.{texts}
use Rattle.clap.proofs.WalkLemmas.{raw_values-rows}
use Rattle.ep_main.proofs.Literals.{chain_copied, chain_found, none_isnt}
use Rattle.ep_main.proofs.command_line.chain_of.Goals as goal

pub returns-in_ok-names-in-Some-clause-named : goal.returns-in_ok-names-in-Some-clause-named
returns-in_ok-names-in-Some-clause-named c names given =
    let found : Some (texts c.in-Some.words.now) ≡ option_map raw_values (matched_of (found_of c.args.options.now) (codes "FILE")) = search rules in
    (refl, chain_copied _ names _ _ (found ∙ raw_values-rows (found_of c.args.options.now) (codes "FILE")) c.in_ok-names-in-Some.ensures given)

pub returns-in_ok-names-in-Some-clause-only : goal.returns-in_ok-names-in-Some-clause-only
returns-in_ok-names-in-Some-clause-only c =
    let found : Some (texts c.in-Some.words.now) ≡ option_map raw_values (matched_of (found_of c.args.options.now) (codes "FILE")) = search rules in
    (refl, chain_found _ _ _ (found ∙ raw_values-rows (found_of c.args.options.now) (codes "FILE")) c.in_ok-names-in-Some.ensures)

pub returns-in_ok-from_str-in-None-clause-named : goal.returns-in_ok-from_str-in-None-clause-named
returns-in_ok-from_str-in-None-clause-named c names given =
    let found : None ≡ option_map raw_values (matched_of (found_of c.args.options.now) (codes "FILE")) = search rules in
    absurd (none_isnt _ _ (found ∙ raw_values-rows (found_of c.args.options.now) (codes "FILE")) given)

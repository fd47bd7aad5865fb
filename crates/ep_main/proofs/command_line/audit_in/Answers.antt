use Rattle.std.proofs.Common.{rules, ◌≡◌, ◌∙◌, sym, refl, Some, None, codes, option_map}
use Rattle.std.proofs.lemmas.Bool.{both_ways}
use Rattle.clap.specs.Matches.{found_of, matched_of, raw_values}
use Rattle.clap.specs.Walk.{texts}
use Rattle.clap.proofs.WalkLemmas.{raw_values-rows}
use Rattle.ep_main.proofs.Literals.{some_isnt}
use Rattle.ep_main.proofs.command_line.audit_in.Goals as goal

pub returns-in_err-from_str-in-Some-clause-audit : goal.returns-in_err-from_str-in-Some-clause-audit
returns-in_err-from_str-in-Some-clause-audit c is =
    let found : Some (texts c.in-Some.field-0.now) ≡ option_map raw_values (matched_of (found_of c.args.options.now) (codes "FILE")) = search rules in
    absurd (some_isnt _ _ (found ∙ raw_values-rows (found_of c.args.options.now) (codes "FILE")) is.files)

pub returns-in_ok-from_str-in-Some-clause-audit : goal.returns-in_ok-from_str-in-Some-clause-audit
returns-in_ok-from_str-in-Some-clause-audit c is =
    let found : Some (texts c.in-Some.field-0.now) ≡ option_map raw_values (matched_of (found_of c.args.options.now) (codes "FILE")) = search rules in
    absurd (some_isnt _ _ (found ∙ raw_values-rows (found_of c.args.options.now) (codes "FILE")) is.files)

pub returns-in-None-clause-only : goal.returns-in-None-clause-only
returns-in-None-clause-only c =
    let found : None ≡ option_map raw_values (matched_of (found_of c.args.options.now) (codes "FILE")) = search rules in
    (refl, record { chain = λ given. both_ways _ c.if-is_chain.false (c.is_chain.ensures.other given); files = sym (found ∙ raw_values-rows (found_of c.args.options.now) (codes "FILE")) })

use Rattle.std.proofs.Common.{rules, ◌≡◌, ◌∙◌, Some, None}
use Rattle.clap.specs.Matches.{found_of, first_value}
use Rattle.clap.proofs.WalkLemmas.{first_value-rows}
use Rattle.ep_main.proofs.Choosing.{default_is, not_spelled, only_as, spelled_as}
use Rattle.ep_main.proofs.command_line.limit_of.Goals as goal

pub returns-in-Some-clause-spelled : goal.returns-in-Some-clause-spelled
returns-in-Some-clause-spelled c =
    let first : Some c.in-Some.word.now ≡ first_value (found_of c.args.options.now) c.args.name.now = search rules in
    spelled_as c.args.most c.args.default c.in-Some.word.now _ _ (first ∙ first_value-rows (found_of c.args.options.now) c.args.name.now) c.limit_named.ensures.spelled

pub returns-in-Some-clause-only : goal.returns-in-Some-clause-only
returns-in-Some-clause-only c =
    let first : Some c.in-Some.word.now ≡ first_value (found_of c.args.options.now) c.args.name.now = search rules in
    only_as c.args.most c.args.default c.in-Some.word.now _ _ (first ∙ first_value-rows (found_of c.args.options.now) c.args.name.now) c.limit_named.ensures.only

pub returns-in-None-clause-spelled : goal.returns-in-None-clause-spelled
returns-in-None-clause-spelled c =
    let first : None ≡ first_value (found_of c.args.options.now) c.args.name.now = search rules in
    not_spelled c.args.most c.args.default _ (first ∙ first_value-rows (found_of c.args.options.now) c.args.name.now)

pub returns-in-None-clause-only : goal.returns-in-None-clause-only
returns-in-None-clause-only c =
    let first : None ≡ first_value (found_of c.args.options.now) c.args.name.now = search rules in
    default_is c.args.most c.args.default _ (first ∙ first_value-rows (found_of c.args.options.now) c.args.name.now)

use Rattle.std.proofs.Common.{rules, ◌≡◌, Some, codes, option_map, refl}
use Rattle.clap.specs.Matches.{found_of, subcommand_name_of}
use Rattle.clap.specs.Simple.{subcommand_rows_of}
use Rattle.clap.specs.Walk.{rows_of}
use Rattle.ep_main.proofs.Literals.{as_run, chooses_met, err_not_ok, met_with_by, run_no_upgrade}
use Rattle.ep_main.proofs.command_line.run_by.Goals as goal

pub returns-in_ok-options_of-in-Some-clause-run : goal.returns-in_ok-options_of-in-Some-clause-run
returns-in_ok-options_of-in-Some-clause-run c options found =
    let named : subcommand_name_of c.args.matches.now ≡ Some (codes "run") = search rules in
    let has : option_map (λ p. p.1) (subcommand_rows_of c.args.matches.now) ≡ Some (rows_of (found_of c.in-Some.options.now)) = search rules in
    as_run _ options _ _ refl refl (c.in_ok-options_of-in-Some.ensures.chosen options (chooses_met c.args.matches.now (codes "run") _ options named has found))

pub returns-in_err-options_of-in-Some-clause-run : goal.returns-in_err-options_of-in-Some-clause-run
returns-in_err-options_of-in-Some-clause-run c options found =
    let named : subcommand_name_of c.args.matches.now ≡ Some (codes "run") = search rules in
    let has : option_map (λ p. p.1) (subcommand_rows_of c.args.matches.now) ≡ Some (rows_of (found_of c.in-Some.options.now)) = search rules in
    absurd (err_not_ok _ options _ refl (c.in_err-options_of-in-Some.ensures.chosen options (chooses_met c.args.matches.now (codes "run") _ options named has found)))

pub returns-in_ok-options_of-in-Some-clause-upgrade : goal.returns-in_ok-options_of-in-Some-clause-upgrade
returns-in_ok-options_of-in-Some-clause-upgrade c target found =
    let named : subcommand_name_of c.args.matches.now ≡ Some (codes "run") = search rules in
    absurd (run_no_upgrade c.args.matches.now target named found)

pub returns-in_err-options_of-in-Some-clause-upgrade : goal.returns-in_err-options_of-in-Some-clause-upgrade
returns-in_err-options_of-in-Some-clause-upgrade c target found =
    let named : subcommand_name_of c.args.matches.now ≡ Some (codes "run") = search rules in
    absurd (run_no_upgrade c.args.matches.now target named found)

pub returns-in_ok-options_of-in-Some-clause-only : goal.returns-in_ok-options_of-in-Some-clause-only
returns-in_ok-options_of-in-Some-clause-only c =
    let named : subcommand_name_of c.args.matches.now ≡ Some (codes "run") = search rules in
    let has : option_map (λ p. p.1) (subcommand_rows_of c.args.matches.now) ≡ Some (rows_of (found_of c.in-Some.options.now)) = search rules in
    (_, met_with_by c.args.matches.now (codes "run") _ named has, c.in_ok-options_of-in-Some.ensures.only)

use Rattle.std.proofs.Common.{rules, ◌≡◌, Some, codes, option_map, refl}
use Rattle.clap.specs.Matches.{found_of, subcommand_name_of}
use Rattle.clap.specs.Simple.{subcommand_rows_of}
use Rattle.clap.specs.Walk.{rows_of}
use Rattle.ep_main.proofs.Literals.{as_replay, err_not_ok, met_by, names_met, replay_no_upgrade, replay_no_run}
use Rattle.ep_main.proofs.command_line.asked_by.Goals as goal

pub returns-in_ok-emit_of-in-Some-clause-replay : goal.returns-in_ok-emit_of-in-Some-clause-replay
returns-in_ok-emit_of-in-Some-clause-replay c emit found =
    let named : subcommand_name_of c.args.matches.now ≡ Some (codes "replay") = search rules in
    let has : option_map (λ p. p.1) (subcommand_rows_of c.args.matches.now) ≡ Some (rows_of (found_of c.in-Some.options.now)) = search rules in
    as_replay _ emit _ _ refl refl (c.in_ok-emit_of-in-Some.ensures.named emit (names_met c.args.matches.now (codes "replay") _ emit named has found))

pub returns-in_err-emit_of-in-Some-clause-replay : goal.returns-in_err-emit_of-in-Some-clause-replay
returns-in_err-emit_of-in-Some-clause-replay c emit found =
    let named : subcommand_name_of c.args.matches.now ≡ Some (codes "replay") = search rules in
    let has : option_map (λ p. p.1) (subcommand_rows_of c.args.matches.now) ≡ Some (rows_of (found_of c.in-Some.options.now)) = search rules in
    absurd (err_not_ok _ emit _ refl (c.in_err-emit_of-in-Some.ensures.named emit (names_met c.args.matches.now (codes "replay") _ emit named has found)))

pub returns-in_ok-emit_of-in-Some-clause-upgrade : goal.returns-in_ok-emit_of-in-Some-clause-upgrade
returns-in_ok-emit_of-in-Some-clause-upgrade c target found =
    let named : subcommand_name_of c.args.matches.now ≡ Some (codes "replay") = search rules in
    absurd (replay_no_upgrade c.args.matches.now target named found)

pub returns-in_err-emit_of-in-Some-clause-upgrade : goal.returns-in_err-emit_of-in-Some-clause-upgrade
returns-in_err-emit_of-in-Some-clause-upgrade c target found =
    let named : subcommand_name_of c.args.matches.now ≡ Some (codes "replay") = search rules in
    absurd (replay_no_upgrade c.args.matches.now target named found)

pub returns-in_ok-emit_of-in-Some-clause-run : goal.returns-in_ok-emit_of-in-Some-clause-run
returns-in_ok-emit_of-in-Some-clause-run c options found =
    let named : subcommand_name_of c.args.matches.now ≡ Some (codes "replay") = search rules in
    absurd (replay_no_run c.args.matches.now options named found)

pub returns-in_err-emit_of-in-Some-clause-run : goal.returns-in_err-emit_of-in-Some-clause-run
returns-in_err-emit_of-in-Some-clause-run c options found =
    let named : subcommand_name_of c.args.matches.now ≡ Some (codes "replay") = search rules in
    absurd (replay_no_run c.args.matches.now options named found)

pub returns-in_ok-emit_of-in-Some-clause-only : goal.returns-in_ok-emit_of-in-Some-clause-only
returns-in_ok-emit_of-in-Some-clause-only c =
    let named : subcommand_name_of c.args.matches.now ≡ Some (codes "replay") = search rules in
    let has : option_map (λ p. p.1) (subcommand_rows_of c.args.matches.now) ≡ Some (rows_of (found_of c.in-Some.options.now)) = search rules in
    (_, met_by c.args.matches.now (codes "replay") _ named has, c.in_ok-emit_of-in-Some.ensures.only)

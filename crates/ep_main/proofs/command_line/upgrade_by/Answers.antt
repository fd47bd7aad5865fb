use Rattle.std.proofs.Common.{rules, ◌≡◌, Some, codes, option_map, refl}
use Rattle.clap.specs.Matches.{found_of, subcommand_name_of}
use Rattle.clap.specs.Simple.{subcommand_rows_of}
use Rattle.clap.specs.Walk.{rows_of}
use Rattle.ep_main.proofs.Literals.{as_upgrade, err_not_ok, met_to_by, target_met, upgrade_named}
use Rattle.ep_main.proofs.command_line.upgrade_by.Goals as goal

pub returns-in_ok-target_of-in-Some-clause-upgrade : goal.returns-in_ok-target_of-in-Some-clause-upgrade
returns-in_ok-target_of-in-Some-clause-upgrade c target found =
    let named : subcommand_name_of c.args.matches.now ≡ Some (codes "upgrade") = search rules in
    let has : option_map (λ p. p.1) (subcommand_rows_of c.args.matches.now) ≡ Some (rows_of (found_of c.in-Some.options.now)) = search rules in
    as_upgrade _ target _ _ refl refl (c.in_ok-target_of-in-Some.ensures.named target (target_met c.args.matches.now _ target named has found))

pub returns-in_err-target_of-in-Some-clause-upgrade : goal.returns-in_err-target_of-in-Some-clause-upgrade
returns-in_err-target_of-in-Some-clause-upgrade c target found =
    let named : subcommand_name_of c.args.matches.now ≡ Some (codes "upgrade") = search rules in
    let has : option_map (λ p. p.1) (subcommand_rows_of c.args.matches.now) ≡ Some (rows_of (found_of c.in-Some.options.now)) = search rules in
    absurd (err_not_ok _ target _ refl (c.in_err-target_of-in-Some.ensures.named target (target_met c.args.matches.now _ target named has found)))

pub returns-in-None-clause-upgrade : goal.returns-in-None-clause-upgrade
returns-in-None-clause-upgrade c target found =
    let named : subcommand_name_of c.args.matches.now ≡ Some (codes "upgrade") = upgrade_named c.args.matches.now target found in
    let bad : ⊥ = search rules in
    absurd bad

pub returns-in_ok-target_of-in-Some-clause-only : goal.returns-in_ok-target_of-in-Some-clause-only
returns-in_ok-target_of-in-Some-clause-only c =
    let named : subcommand_name_of c.args.matches.now ≡ Some (codes "upgrade") = search rules in
    let has : option_map (λ p. p.1) (subcommand_rows_of c.args.matches.now) ≡ Some (rows_of (found_of c.in-Some.options.now)) = search rules in
    (_, met_to_by c.args.matches.now _ named has, c.in_ok-target_of-in-Some.ensures.only)

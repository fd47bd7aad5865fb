use Rattle.std.proofs.Common.{rules, ◌≡◌, Some, codes, option_map, refl}
use Rattle.clap.specs.Matches.{found_of, subcommand_name_of}
use Rattle.clap.specs.Simple.{subcommand_rows_of}
use Rattle.clap.specs.Walk.{rows_of}
use Rattle.ep_main.proofs.Literals.{as_streams, audit_named, audit_no_replay, audit_no_run, audit_no_upgrade, bundle_met, chain_met, chain_named, err_not_ok, met_audit_tasks}
use Rattle.ep_main.proofs.command_line.task_by.Goals as goal

pub returns-in-Some-clause-replay : goal.returns-in-Some-clause-replay
returns-in-Some-clause-replay c emit found =
    let named : subcommand_name_of c.args.matches.now ≡ Some (codes "audit") = search rules in
    absurd (audit_no_replay c.args.matches.now emit named found)

pub returns-in-Some-clause-run : goal.returns-in-Some-clause-run
returns-in-Some-clause-run c options found =
    let named : subcommand_name_of c.args.matches.now ≡ Some (codes "audit") = search rules in
    absurd (audit_no_run c.args.matches.now options named found)

pub returns-in-Some-clause-upgrade : goal.returns-in-Some-clause-upgrade
returns-in-Some-clause-upgrade c target found =
    let named : subcommand_name_of c.args.matches.now ≡ Some (codes "audit") = search rules in
    absurd (audit_no_upgrade c.args.matches.now target named found)

pub returns-in-Some-clause-audit : goal.returns-in-Some-clause-audit
returns-in-Some-clause-audit c form found =
    let named : subcommand_name_of c.args.matches.now ≡ Some (codes "audit") = search rules in
    let has : option_map (λ p. p.1) (subcommand_rows_of c.args.matches.now) ≡ Some (rows_of (found_of c.in-Some.options.now)) = search rules in
    let is = bundle_met c.args.matches.now form _ named has found in
    c.audit_of.ensures.audit form is.0 is.1

pub returns-in-Some-clause-chain : goal.returns-in-Some-clause-chain
returns-in-Some-clause-chain c form names found =
    let named : subcommand_name_of c.args.matches.now ≡ Some (codes "audit") = search rules in
    let has : option_map (λ p. p.1) (subcommand_rows_of c.args.matches.now) ≡ Some (rows_of (found_of c.in-Some.options.now)) = search rules in
    let is = chain_met c.args.matches.now form _ names named has found in
    c.audit_of.ensures.chain form names is.0 is.1

pub returns-in-Some-clause-only : goal.returns-in-Some-clause-only
returns-in-Some-clause-only c =
    let named : subcommand_name_of c.args.matches.now ≡ Some (codes "audit") = search rules in
    let has : option_map (λ p. p.1) (subcommand_rows_of c.args.matches.now) ≡ Some (rows_of (found_of c.in-Some.options.now)) = search rules in
    met_audit_tasks c.args.matches.now _ _ named has c.audit_of.ensures.only

pub returns-in_ok-asked-in-None-clause-audit : goal.returns-in_ok-asked-in-None-clause-audit
returns-in_ok-asked-in-None-clause-audit c form found =
    let named : subcommand_name_of c.args.matches.now ≡ Some (codes "audit") = audit_named c.args.matches.now form found in
    let bad : ⊥ = search rules in
    absurd bad

pub returns-in_err-asked-in-None-clause-audit : goal.returns-in_err-asked-in-None-clause-audit
returns-in_err-asked-in-None-clause-audit c form found =
    let named : subcommand_name_of c.args.matches.now ≡ Some (codes "audit") = audit_named c.args.matches.now form found in
    let bad : ⊥ = search rules in
    absurd bad

pub returns-in_ok-asked-in-None-clause-chain : goal.returns-in_ok-asked-in-None-clause-chain
returns-in_ok-asked-in-None-clause-chain c form names found =
    let named : subcommand_name_of c.args.matches.now ≡ Some (codes "audit") = chain_named c.args.matches.now form names found in
    let bad : ⊥ = search rules in
    absurd bad

pub returns-in_err-asked-in-None-clause-chain : goal.returns-in_err-asked-in-None-clause-chain
returns-in_err-asked-in-None-clause-chain c form names found =
    let named : subcommand_name_of c.args.matches.now ≡ Some (codes "audit") = chain_named c.args.matches.now form names found in
    let bad : ⊥ = search rules in
    absurd bad

pub returns-in_ok-asked-in-None-clause-replay : goal.returns-in_ok-asked-in-None-clause-replay
returns-in_ok-asked-in-None-clause-replay c emit found = as_streams _ _ _ _ refl refl (c.in_ok-asked-in-None.ensures.replay emit found)

pub returns-in_err-asked-in-None-clause-replay : goal.returns-in_err-asked-in-None-clause-replay
returns-in_err-asked-in-None-clause-replay c emit found = absurd (err_not_ok _ _ _ refl (c.in_err-asked-in-None.ensures.replay emit found))

pub returns-in_ok-asked-in-None-clause-run : goal.returns-in_ok-asked-in-None-clause-run
returns-in_ok-asked-in-None-clause-run c options found = as_streams _ _ _ _ refl refl (c.in_ok-asked-in-None.ensures.run options found)

pub returns-in_err-asked-in-None-clause-run : goal.returns-in_err-asked-in-None-clause-run
returns-in_err-asked-in-None-clause-run c options found = absurd (err_not_ok _ _ _ refl (c.in_err-asked-in-None.ensures.run options found))

pub returns-in_ok-asked-in-None-clause-upgrade : goal.returns-in_ok-asked-in-None-clause-upgrade
returns-in_ok-asked-in-None-clause-upgrade c target found = as_streams _ _ _ _ refl refl (c.in_ok-asked-in-None.ensures.upgrade target found)

pub returns-in_err-asked-in-None-clause-upgrade : goal.returns-in_err-asked-in-None-clause-upgrade
returns-in_err-asked-in-None-clause-upgrade c target found = absurd (err_not_ok _ _ _ refl (c.in_err-asked-in-None.ensures.upgrade target found))

use Rattle.std.proofs.Common.{refl, rules, ◌≡◌, string_bytes}
use Rattle.ep_cli.proofs.Printed.{put_fails, put_reads, put_status, text_fails, text_reads, text_status}
use Rattle.ep_main.proofs.Ending.{done_as, help_put, version_put}
use Rattle.ep_main.specs.Faults.{is_read, is_write}
use Rattle.ep_main.specs.Runs.{IsVerdict}
use Rattle.ep_main.specs.declared.asked.Asked.TheVariants.{Replay, Run, Audit, Upgrade, Version, Help}
use Rattle.ep_main.specs.declared.engine_fault.EngineFault.TheVariants.{Write}
use Rattle.ep_main.proofs.program.attempt.Goals as goal

pub returns-in-Replay-clause-done : goal.returns-in-Replay-clause-done
returns-in-Replay-clause-done g c zs known =
    let is : c.args.asked ≡ Replay c.in-Replay.emit = search rules in
    done_as c.args.asked (Replay c.in-Replay.emit) c.replay_of-made.result c.put_made.result zs _ is (c.replay_of-made.ensures.plays zs known) c.put_made.ensures

pub returns-in-Replay-clause-verdict : goal.returns-in-Replay-clause-verdict
returns-in-Replay-clause-verdict g c = put_status IsVerdict Write c.replay_of-made.result c.put_made.result _ c.replay_of-made.ensures.verdict c.put_made.ensures

pub returns-in-Replay-clause-read : goal.returns-in-Replay-clause-read
returns-in-Replay-clause-read g c = put_reads is_read Write c.replay_of-made.result c.put_made.result _ _ _ refl c.replay_of-made.ensures.read c.put_made.ensures

pub returns-in-Replay-clause-written : goal.returns-in-Replay-clause-written
returns-in-Replay-clause-written g c = put_fails is_write Write c.replay_of-made.result c.put_made.result _ refl c.replay_of-made.ensures.unwritten c.put_made.ensures

pub returns-in-Run-clause-done : goal.returns-in-Run-clause-done
returns-in-Run-clause-done g c zs known =
    let is : c.args.asked ≡ Run c.in-Run.options = search rules in
    done_as c.args.asked (Run c.in-Run.options) c.run_of-made.result c.put_made-in-Run.result zs _ is (c.run_of-made.ensures.runs zs known) c.put_made-in-Run.ensures

pub returns-in-Run-clause-verdict : goal.returns-in-Run-clause-verdict
returns-in-Run-clause-verdict g c = put_status IsVerdict Write c.run_of-made.result c.put_made-in-Run.result _ c.run_of-made.ensures.verdict c.put_made-in-Run.ensures

pub returns-in-Run-clause-read : goal.returns-in-Run-clause-read
returns-in-Run-clause-read g c = put_reads is_read Write c.run_of-made.result c.put_made-in-Run.result _ _ _ refl c.run_of-made.ensures.read c.put_made-in-Run.ensures

pub returns-in-Run-clause-written : goal.returns-in-Run-clause-written
returns-in-Run-clause-written g c = put_fails is_write Write c.run_of-made.result c.put_made-in-Run.result _ refl c.run_of-made.ensures.unwritten c.put_made-in-Run.ensures

pub returns-in-Audit-clause-done : goal.returns-in-Audit-clause-done
returns-in-Audit-clause-done g c zs known =
    let is : c.args.asked ≡ Audit c.in-Audit.form = search rules in
    done_as c.args.asked (Audit c.in-Audit.form) c.audit_of-made.result c.put_made-in-Audit.result zs _ is (c.audit_of-made.ensures.finishes zs known) c.put_made-in-Audit.ensures

pub returns-in-Audit-clause-verdict : goal.returns-in-Audit-clause-verdict
returns-in-Audit-clause-verdict g c = put_status IsVerdict Write c.audit_of-made.result c.put_made-in-Audit.result _ c.audit_of-made.ensures.verdict c.put_made-in-Audit.ensures

pub returns-in-Audit-clause-read : goal.returns-in-Audit-clause-read
returns-in-Audit-clause-read g c = put_reads is_read Write c.audit_of-made.result c.put_made-in-Audit.result _ _ _ refl c.audit_of-made.ensures.read c.put_made-in-Audit.ensures

pub returns-in-Audit-clause-written : goal.returns-in-Audit-clause-written
returns-in-Audit-clause-written g c = put_fails is_write Write c.audit_of-made.result c.put_made-in-Audit.result _ refl c.audit_of-made.ensures.unwritten c.put_made-in-Audit.ensures

pub returns-in-Upgrade-clause-done : goal.returns-in-Upgrade-clause-done
returns-in-Upgrade-clause-done g c zs known =
    let is : c.args.asked ≡ Upgrade c.in-Upgrade.target = search rules in
    done_as c.args.asked (Upgrade c.in-Upgrade.target) c.upgraded_of-made.result c.put_made-in-Upgrade.result zs _ is (c.upgraded_of-made.ensures.rewrites zs known) c.put_made-in-Upgrade.ensures

pub returns-in-Upgrade-clause-verdict : goal.returns-in-Upgrade-clause-verdict
returns-in-Upgrade-clause-verdict g c = put_status IsVerdict Write c.upgraded_of-made.result c.put_made-in-Upgrade.result _ c.upgraded_of-made.ensures.verdict c.put_made-in-Upgrade.ensures

pub returns-in-Upgrade-clause-read : goal.returns-in-Upgrade-clause-read
returns-in-Upgrade-clause-read g c = put_reads is_read Write c.upgraded_of-made.result c.put_made-in-Upgrade.result _ _ _ refl c.upgraded_of-made.ensures.read c.put_made-in-Upgrade.ensures

pub returns-in-Upgrade-clause-written : goal.returns-in-Upgrade-clause-written
returns-in-Upgrade-clause-written g c = put_fails is_write Write c.upgraded_of-made.result c.put_made-in-Upgrade.result _ refl c.upgraded_of-made.ensures.unwritten c.put_made-in-Upgrade.ensures

pub returns-in-Version-clause-done : goal.returns-in-Version-clause-done
returns-in-Version-clause-done g c zs known =
    let is : c.args.asked ≡ Version = search rules in
    version_put c.args.asked c.put_text.result zs _ is c.put_text.ensures

pub returns-in-Help-clause-done : goal.returns-in-Help-clause-done
returns-in-Help-clause-done g c zs known =
    let is : c.args.asked ≡ Help c.in-Help.text = search rules in
    let bytes : c.as_bytes.result.now ≡ string_bytes c.in-Help.text = search rules in
    help_put c.args.asked (Help c.in-Help.text) _ c.put_text-in-Help.result zs _ is bytes c.put_text-in-Help.ensures

pub returns-in-Version-clause-read : goal.returns-in-Version-clause-read
returns-in-Version-clause-read g c = text_reads is_read Write _ _ c.put_text.result _ _ refl c.put_text.ensures

pub returns-in-Version-clause-written : goal.returns-in-Version-clause-written
returns-in-Version-clause-written g c = text_fails is_write Write _ _ c.put_text.result _ refl c.put_text.ensures

pub returns-in-Version-clause-verdict : goal.returns-in-Version-clause-verdict
returns-in-Version-clause-verdict g c = text_status IsVerdict Write _ _ c.put_text.result _ tt c.put_text.ensures

pub returns-in-Help-clause-read : goal.returns-in-Help-clause-read
returns-in-Help-clause-read g c = text_reads is_read Write _ _ c.put_text-in-Help.result _ _ refl c.put_text-in-Help.ensures

pub returns-in-Help-clause-written : goal.returns-in-Help-clause-written
returns-in-Help-clause-written g c = text_fails is_write Write _ _ c.put_text-in-Help.result _ refl c.put_text-in-Help.ensures

pub returns-in-Help-clause-verdict : goal.returns-in-Help-clause-verdict
returns-in-Help-clause-verdict g c = text_status IsVerdict Write _ _ c.put_text-in-Help.result _ tt c.put_text-in-Help.ensures

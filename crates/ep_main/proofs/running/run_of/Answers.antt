use Rattle.ep_main.proofs.Flags.{script_read, script_unwritten}
use Rattle.ep_main.proofs.Making.{memory_read, memory_unwritten, not_run, run_made, run_status}
use Rattle.ep_main.specs.declared.engine_fault.EngineFault.TheVariants.{Memory}
use Rattle.ep_main.specs.declared.asked.Asked.TheVariants.{Run}
use Rattle.ep_main.specs.Runs.{Does}
use Rattle.ep_cli.proofs.Printed.{not_made}
use Rattle.ep_main.proofs.running.run_of.Goals as goal

pub judge_run-judged-requires : goal.judge_run-judged-requires
judge_run-judged-requires g c = record { finished = c.in_ok-ran.ensures.finished }

pub returns-in_err-script-clause-runs : goal.returns-in_err-script-clause-runs
returns-in_err-script-clause-runs g c zs known = not_run c.args.options.now c.in_err-script.field-0.0 _ zs c.from_residual.ensures.1 (c.in_err-script.ensures.bytes zs known)

pub returns-in_err-script-clause-read : goal.returns-in_err-script-clause-read
returns-in_err-script-clause-read g c = script_read c.in_err-script.field-0.0 _ _ _ c.from_residual.ensures.1 c.in_err-script.ensures.failed

pub returns-in_err-script-clause-unwritten : goal.returns-in_err-script-clause-unwritten
returns-in_err-script-clause-unwritten g c = script_unwritten c.in_err-script.field-0.0 _ c.from_residual.ensures.1

pub returns-clause-runs : goal.returns-clause-runs
returns-clause-runs g c zs known =
    run_made c.args.options.now _ c.in_ok-script.script c.in_ok-ran.ran zs c.judge_run-judged.result (c.in_ok-script.ensures.bytes zs known) c.in_ok-ran.ensures.begun c.in_ok-ran.ensures.promised c.emit.ensures
    c.judge_run-judged.ensures.value c.judge_run-judged.ensures.accepted c.judge_run-judged.ensures.memory

pub returns-clause-verdict : goal.returns-clause-verdict
returns-clause-verdict g c = run_status _ c.in_ok-ran.ran c.judge_run-judged.result c.judge_run-judged.ensures.value

pub returns-clause-read : goal.returns-clause-read
returns-clause-read g c = memory_read c.judge_run-judged.result _ _ c.judge_run-judged.ensures.memory c.in_ok-script.ensures.failed

pub returns-clause-unwritten : goal.returns-clause-unwritten
returns-clause-unwritten g c = memory_unwritten c.judge_run-judged.result c.judge_run-judged.ensures.memory

pub returns-in_err-ran-clause-runs : goal.returns-in_err-ran-clause-runs
returns-in_err-ran-clause-runs g c zs known = not_made (Does (Run c.args.options.now)) _ Memory zs c.from_residual-in_err-ran.ensures.1 (λ out silent. silent)

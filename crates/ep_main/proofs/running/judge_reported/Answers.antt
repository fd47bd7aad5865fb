use Rattle.std.proofs.Common.{rules}
use Rattle.ep_audit.specs.Faults.{fault_of}
use Rattle.ep_audit.specs.Verdicts.{summary_of}
use Rattle.ep_main.proofs.Verdicts.{accepted_in, refused_in}
use Rattle.ep_main.proofs.running.judge_reported.Goals as goal

pub returns-in_ok-text-in-Ok-clause-value : goal.returns-in_ok-text-in-Ok-clause-value
returns-in_ok-text-in-Ok-clause-value c = (summary_of c.in-Ok.verdict, (accepted_in c.args.ran.now c.in-Ok.verdict (search rules) c.requires).says, search rules)

pub returns-in_ok-refusal_in-in-Err-clause-value : goal.returns-in_ok-refusal_in-in-Err-clause-value
returns-in_ok-refusal_in-in-Err-clause-value c = (fault_of c.in-Err.fault, refused_in c.args.ran.now c.in-Err.fault (search rules) c.requires, search rules)

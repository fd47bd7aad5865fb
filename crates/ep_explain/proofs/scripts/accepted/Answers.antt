use Rattle.std.proofs.Common.{IfOk, None, sym, subst}
use Rattle.ep_explain.specs.Advice.{IsAdvice}
use Rattle.ep_explain.specs.declared.subcommand.Subcommand.{Subcommand}
use Rattle.ep_explain.proofs.scripts.accepted.Goals as goal

pub returns-in-Run : goal.returns-in-Run
returns-in-Run c = subst (λ (s : Subcommand). IfOk c.run_accepted.result (λ a. IsAdvice s None a.is_read a.text.items)) (sym c.in-Run.is) c.run_accepted.ensures

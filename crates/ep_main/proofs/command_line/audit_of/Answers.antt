use Rattle.std.proofs.Common.{◌≡◌, refl, sym, subst, MatchResult, Ok}
use Rattle.clap.specs.Matches.{found_of}
use Rattle.clap.specs.Walk.{rows_of}
use Rattle.ep_main.proofs.Literals.{audit_tasks, err_not_ok, same_form}
use Rattle.ep_main.specs.Words.{IsChainOf, audit_words}
use Rattle.ep_main.specs.declared.asked.Asked.TheVariants.{Audit}
use Rattle.ep_cli.specs.declared.words_fault.WordsFault.TheVariants.{Memory}
use Rattle.ep_main.specs.declared.job.Job.TheVariants.{Streams}
use Rattle.ep_main.proofs.command_line.audit_of.Goals as goal

pub returns-clause-audit : goal.returns-clause-audit
returns-clause-audit c form is names =
    subst (λ f. c.audit_in.result ≡ Ok (Streams (Audit f))) (sym (same_form form c.in_ok-form.form _ refl (c.in_ok-form.ensures.named form names))) (c.audit_in.ensures.audit is)

pub returns-in_err-form-clause-audit : goal.returns-in_err-form-clause-audit
returns-in_err-form-clause-audit c form is names = absurd (err_not_ok _ form _ refl (c.in_err-form.ensures.named form names))

pub returns-clause-chain : goal.returns-clause-chain
returns-clause-chain c form files is names =
    subst (λ f. MatchResult c.audit_in.result (IsChainOf f files) (λ d. d ≡ Memory)) (sym (same_form form c.in_ok-form.form _ refl (c.in_ok-form.ensures.named form names)))
    (c.audit_in.ensures.chain files is)

pub returns-in_err-form-clause-chain : goal.returns-in_err-form-clause-chain
returns-in_err-form-clause-chain c form files is names = absurd (err_not_ok _ form _ refl (c.in_err-form.ensures.named form names))

pub returns-clause-only : goal.returns-clause-only
returns-clause-only c = audit_tasks c.in_ok-form.form (audit_words (rows_of (found_of c.args.options.now))) c.audit_in.result c.in_ok-form.ensures.only c.audit_in.ensures.only

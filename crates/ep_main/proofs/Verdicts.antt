-- What the audit says of a run that has ended.
use Rattle.std.proofs.Common.{◌≡◌, ℕ, List, Result, Ok, Err, IsOk, MatchResult, subst}
use Rattle.ep_audit.specs.Audited.{IsAudited}
use Rattle.ep_bundle.specs.Bytes.{bundle_bytes}
use Rattle.ep_host.specs.Finishing.{IsFinished}
use Rattle.ep_journal.specs.Entries.{journals_of}
use Rattle.ep_journal.specs.Openings.{opens}
use Rattle.ep_audit.specs.Faults.{fault_of}
use Rattle.ep_audit.specs.declared.audit_fault.AuditFault.{AuditFault}
use Rattle.ep_rules.specs.Audits.{IsFault}
use Rattle.ep_run.specs.declared.ran.Ran.{Ran}
use Rattle.ep_audit.specs.Verdicts.{summary_of}
use Rattle.ep_audit.specs.declared.verdict.Verdict.{Verdict}
use Rattle.ep_main.proofs.Flags.{run_verdict}
use Rattle.ep_main.specs.Audits.{SaysOfRun}
use Rattle.ep_main.specs.Hosts.{Promises}
use Rattle.ep_main.specs.Options.{Options}
use Rattle.ep_cli.specs.Outputs.{Output}
use Rattle.ep_main.specs.Runs.{IsRan, IsRefusedRun, Runs}
use Rattle.ep_main.specs.declared.asked.Emit.{Emit}
use Rattle.ep_main.specs.declared.asked.Emit.TheVariants.{Bundle}
use Rattle.ep_cli.specs.declared.status.Status.{Status}
use Rattle.ep_main.specs.declared.host.Host.{Host}
use Rattle.ep_main.specs.declared.host.Host.TheVariants.{Lock, Ring}
use Rattle.ep_cli.specs.declared.status.Status.TheVariants.{Done, AuditRefused, Refused, OutOfMemory, Failed}

pub says_as : (a b : Emit) (ran : Ran) (status : Status) (text : List ℕ) → a ≡ b → SaysOfRun a ran status text → SaysOfRun b ran status text
says_as a b ran status text is says = subst (λ e. SaysOfRun e ran status text) is says

-- the verdict that it has is the audit's
pub accepted_in :
    (ran : Ran) (v : Verdict) → ran.finished.verdict ≡ Ok v → IsFinished ran.receipts.items ran.finished →
    IsAudited (opens ran.finished.journals.opening) ran.finished.journals.faults (journals_of ran.finished.journals) ran.receipts.items v
accepted_in ran v is finished =
    subst (λ (r : Result Verdict AuditFault). MatchResult r (λ v. IsAudited (opens ran.finished.journals.opening) ran.finished.journals.faults (journals_of ran.finished.journals) ran.receipts.items v)
    (λ fault. IsFault (opens ran.finished.journals.opening) ran.finished.journals.faults (journals_of ran.finished.journals) ran.receipts.items (fault_of fault))) is finished

-- the fault that it has is the first one
pub refused_in :
    (ran : Ran) (e : AuditFault) → ran.finished.verdict ≡ Err e → IsFinished ran.receipts.items ran.finished →
    IsFault (opens ran.finished.journals.opening) ran.finished.journals.faults (journals_of ran.finished.journals) ran.receipts.items (fault_of e)
refused_in ran e is finished =
    subst (λ (r : Result Verdict AuditFault). MatchResult r (λ v. IsAudited (opens ran.finished.journals.opening) ran.finished.journals.faults (journals_of ran.finished.journals) ran.receipts.items v)
    (λ fault. IsFault (opens ran.finished.journals.opening) ran.finished.journals.faults (journals_of ran.finished.journals) ran.receipts.items (fault_of fault))) is finished

pub bundled_in :
    (ran : Ran) (v : Verdict) (text : List ℕ) → ran.finished.verdict ≡ Ok v → IsFinished ran.receipts.items ran.finished →
    text ≡ bundle_bytes ran.finished.journals ran.receipts.items → SaysOfRun Bundle ran Done text
bundled_in ran v text is finished same = (summary_of v, (accepted_in ran v is finished).says, same)

pub bundled_refused :
    (ran : Ran) (e : AuditFault) (text : List ℕ) → ran.finished.verdict ≡ Err e → IsFinished ran.receipts.items ran.finished →
    text ≡ bundle_bytes ran.finished.journals ran.receipts.items → SaysOfRun Bundle ran AuditRefused text
bundled_refused ran e text is finished same = (fault_of e, refused_in ran e is finished, same)

refused_is : AuditRefused ≡ Done → ⊥
refused_is bad = cc

-- a run over rings isn't refused
refused_by :
    (host : Host) (options : Options) (zs : List ℕ) (out : Output) (ran : IsRan options AuditRefused zs out) →
    Promises host options.turns ran.plan.sections ran.ran → (IsOk ran.ran.finished.verdict → AuditRefused ≡ Done) → IsRefusedRun host options zs out
refused_by Lock options zs out ran promised accepted = ran
refused_by Ring options zs out ran promised accepted = absurd (refused_is (accepted promised.0))

pub runs_to :
    (options : Options) (status : Status) (zs : List ℕ) (out : Output) (ran : IsRan options status zs out) → (IsOk ran.ran.finished.verdict → status ≡ Done) →
    Runs options (Ok status) zs out
runs_to options Done zs out ran accepted = ran
runs_to options AuditRefused zs out ran accepted = refused_by options.host options zs out ran ran.promised accepted
runs_to options Refused zs out ran accepted = absurd (run_verdict options.emit ran.ran Refused ran.text ran.says)
runs_to options OutOfMemory zs out ran accepted = absurd (run_verdict options.emit ran.ran OutOfMemory ran.text ran.says)
runs_to options Failed zs out ran accepted = absurd (run_verdict options.emit ran.ran Failed ran.text ran.says)

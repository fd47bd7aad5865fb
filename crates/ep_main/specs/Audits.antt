-- What audits say, of bundles and of runs.
use Rattle.std.specs.Prelude.{◌≡◌, ℕ, List, Ok}
use Rattle.ep_bundle.specs.Bytes.{bundle_bytes}
use Rattle.ep_bundle.specs.Journals.{ReadsBundle}
use Rattle.ep_bundle.specs.Reading.{Left}
use Rattle.ep_journal.specs.Entries.{Collected, journals_of}
use Rattle.ep_journal.specs.Openings.{opens}
use Rattle.ep_rules.specs.Audits.{Fault, IsFault}
use Rattle.ep_rules.specs.declared.receipt.Receipt.{Receipt}
use Rattle.ep_run.specs.declared.ran.Ran.{Ran}
use Rattle.ep_audit.specs.declared.summary.Summary.{Summary}
use Rattle.ep_audit.specs.Audited.{IsSummarized}
use Rattle.ep_report.specs.Lives.{life_in}
use Rattle.ep_cli.specs.Outputs.{Output, Wrote}
use Rattle.ep_main.specs.Forms.{accepted_in, refusal_in, run_report_in}
use Rattle.ep_main.specs.declared.asked.Emit.{Emit}
use Rattle.ep_main.specs.declared.asked.Emit.TheVariants.{Report, Bundle}
use Rattle.ep_main.specs.declared.form.Form.{Form}
use Rattle.ep_cli.specs.declared.status.Status.{Status}
use Rattle.ep_cli.specs.declared.status.Status.TheVariants.{Done, AuditRefused, Refused, OutOfMemory, Failed}

-- the audit accepts, and the text is this of what it says; or it refuses, and the text is that of the first fault
abbrev pub Judges : Collected → List Receipt → (Summary → List ℕ) → (Fault → List ℕ) → Status → List ℕ → Type 0
Judges journals receipts accepted refused Done text =
    (summary : Summary) × IsSummarized (opens journals.opening) journals.faults (journals_of journals) receipts summary × (text ≡ accepted summary)
Judges journals receipts accepted refused AuditRefused text =
    (fault : Fault) × IsFault (opens journals.opening) journals.faults (journals_of journals) receipts fault × (text ≡ refused fault)
Judges journals receipts accepted refused Refused text = ⊥
Judges journals receipts accepted refused OutOfMemory text = ⊥
Judges journals receipts accepted refused Failed text = ⊥

-- of a bundle: what it says and the receipts, or the first fault
abbrev pub Says : Form → Collected → List Receipt → Status → List ℕ → Type 0
Says form journals receipts status text =
    Judges journals receipts (accepted_in form journals receipts) (refusal_in form) status text

-- of a run: its report, or the first fault; or, whatever the audit says, the bundle of what the run left
abbrev pub SaysOfRun : Emit → Ran → Status → List ℕ → Type 0
SaysOfRun (Report form) ran status text =
    Judges ran.finished.journals ran.receipts.items (λ s. run_report_in form (life_in ran.finished.journals s) s.committed.items s.history.items ran.receipts.items ran.refused.items ran.lost) (refusal_in form)
    status text
SaysOfRun Bundle ran status text =
    Judges ran.finished.journals ran.receipts.items (λ s. bundle_bytes ran.finished.journals ran.receipts.items) (λ f. bundle_bytes ran.finished.journals ran.receipts.items)
    status text

-- The bytes are one bundle, and what was written is what the audit says of it.
pub record IsAudit (form : Form) (status : Status) (zs : List ℕ) (out : Output) : Type 0 where
  pub journals : Collected
  pub receipts : List Receipt
  pub end : Left
  pub read : ReadsBundle (record { at = 0; bytes = zs }) (Ok ((journals, receipts), end))
  pub text : List ℕ
  pub says : Says form journals receipts status text
  pub wrote : Wrote out text

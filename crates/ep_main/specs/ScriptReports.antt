-- The report of a script.
use Rattle.std.specs.Prelude.{◌≡◌, ℕ, List}
use Rattle.ep_bundle.specs.Bytes.{bundle_bytes}
use Rattle.ep_journal.specs.Entries.{journals_of}
use Rattle.ep_journal.specs.Openings.{opens}
use Rattle.ep_script.specs.Plan.{Plan}
use Rattle.ep_audit.specs.declared.summary.Summary.{Summary}
use Rattle.ep_audit.specs.Audited.{IsSummarized}
use Rattle.ep_report.specs.Lives.{life_in}
use Rattle.ep_replay.specs.Outcome.{IsReplay}
use Rattle.ep_main.specs.Forms.{report_in}
use Rattle.ep_main.specs.declared.asked.Emit.{Emit}
use Rattle.ep_main.specs.declared.asked.Emit.TheVariants.{Report, Bundle}
use Rattle.ep_main.specs.declared.form.Form.{Form}
use Rattle.ep_replay.specs.declared.replayed.Replayed.{Replayed}

-- The audit accepts what the run left, and the text is what the audit says, the receipts, and the lines that were refused.
pub record IsReportOf (form : Form) (played : Replayed) (text : List ℕ) : Type 0 where
  pub summary : Summary
  pub audited : IsSummarized (opens played.journals.opening) played.journals.faults (journals_of played.journals) played.receipts.items summary
  pub printed : text ≡ report_in form (life_in played.journals summary) summary.committed.items summary.history.items played.receipts.items played.refused.items

-- The text is the report of what the protocol plays of the script.
pub record IsReport (form : Form) (plan : Plan) (text : List ℕ) : Type 0 where
  pub played : Replayed
  pub replay : IsReplay plan played
  pub report : IsReportOf form played text

-- What is printed of what the run left: its report or its bundle.
abbrev pub IsEmitted : Emit → Replayed → List ℕ → Type 0
IsEmitted (Report form) played text = IsReportOf form played text
IsEmitted Bundle played text = text ≡ bundle_bytes played.journals played.receipts.items

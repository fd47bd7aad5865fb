-- What an audit of a bundle says, as JSON.
use Rattle.std.specs.Prelude.{◌≡◌, ℕ, Bool, true, false, List}
use Rattle.ep_audit.specs.Audited.{IsSummarized}
use Rattle.ep_audit.specs.declared.summary.Summary.{Summary}
use Rattle.ep_journal.specs.Entries.{Collected, journals_of}
use Rattle.ep_journal.specs.Openings.{opens}
use Rattle.ep_report.specs.Lives.{life_in}
use Rattle.ep_report_json.specs.JsonReports.{accepted_json, refusal_json}
use Rattle.ep_rules.specs.Audits.{Fault, IsFault}
use Rattle.ep_rules.specs.declared.receipt.Receipt.{Receipt}

abbrev pub accepted_in : Collected → List Receipt → Summary → List ℕ
accepted_in journals receipts s = accepted_json (life_in journals s) s.committed.items s.history.items receipts

-- it accepts, and the object is that of what it says; or it refuses, and the object is that of the first fault
abbrev pub IsJudged : Collected → List Receipt → Bool → List ℕ → Type 0
IsJudged journals receipts true text =
    (summary : Summary) × IsSummarized (opens journals.opening) journals.faults (journals_of journals) receipts summary × (text ≡ accepted_in journals receipts summary)
IsJudged journals receipts false text =
    (fault : Fault) × IsFault (opens journals.opening) journals.faults (journals_of journals) receipts fault × (text ≡ refusal_json fault)

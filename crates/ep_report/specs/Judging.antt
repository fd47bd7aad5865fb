-- What an audit of a bundle says.
use Rattle.std.specs.Prelude.{◌≡◌, ℕ, Bool, true, false, List}
use Rattle.ep_audit.specs.Audited.{IsSummarized}
use Rattle.ep_audit.specs.declared.summary.Summary.{Summary}
use Rattle.ep_journal.specs.Entries.{Collected, journals_of}
use Rattle.ep_journal.specs.Openings.{opens}
use Rattle.ep_report.specs.Reports.{text_of, accepted_lines, refusal_lines}
use Rattle.ep_rules.specs.Audits.{Fault, IsFault}
use Rattle.ep_rules.specs.declared.receipt.Receipt.{Receipt}
use Rattle.ep_report.specs.Lives.{life_in}

abbrev pub accepted_text : Collected → List Receipt → Summary → List ℕ
accepted_text journals receipts s = text_of (accepted_lines (life_in journals s) s.committed.items s.history.items receipts)

abbrev pub refusal_text : Fault → List ℕ
refusal_text fault = text_of (refusal_lines fault)

-- it accepts, and the text is that of what it says; or it refuses, and the text is that of the first fault
abbrev pub IsSaid : Collected → List Receipt → Bool → List ℕ → Type 0
IsSaid journals receipts true text =
    (summary : Summary) × IsSummarized (opens journals.opening) journals.faults (journals_of journals) receipts summary × (text ≡ accepted_text journals receipts summary)
IsSaid journals receipts false text =
    (fault : Fault) × IsFault (opens journals.opening) journals.faults (journals_of journals) receipts fault × (text ≡ refusal_text fault)

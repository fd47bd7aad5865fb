-- Reports in each form: as lines of text, or as one object of JSON.
use Rattle.std.specs.Prelude.{◌≡◌, ℕ, Bool, true, false, List, Option}
use Rattle.ep_audit.specs.Audited.{IsSummarized}
use Rattle.ep_audit.specs.declared.chain_fault.ChainFault.{ChainFault}
use Rattle.ep_audit.specs.declared.happening.Happening.{Happening}
use Rattle.ep_audit.specs.declared.summary.Summary.{Summary}
use Rattle.ep_base.specs.declared.decree.Decree.{Decree}
use Rattle.ep_journal.specs.Entries.{Collected, journals_of}
use Rattle.ep_journal.specs.Openings.{opens}
use Rattle.ep_report.specs.Judging.{accepted_text, refusal_text}
use Rattle.ep_report.specs.Lives.{Life}
use Rattle.ep_report.specs.Reports.{chain_refusal_lines, replay_lines, run_lines, text_of}
use Rattle.ep_journal.specs.declared.refusal.Refusal.{Refusal}
use Rattle.ep_report_json.specs.Chains.{chain_refusal_json}
use Rattle.ep_report_json.specs.JsonReports.{refusal_json, replay_json, run_json}
use Rattle.ep_report_json.specs.Judging as json
use Rattle.ep_rules.specs.Audits.{Fault, IsFault}
use Rattle.ep_rules.specs.declared.receipt.Receipt.{Receipt}
use Rattle.ep_main.specs.declared.form.Form.{Form}
use Rattle.ep_main.specs.declared.form.Form.TheVariants.{Lines, Json}

-- of a bundle that the audit accepts
abbrev pub accepted_in : Form → Collected → List Receipt → Summary → List ℕ
accepted_in Lines journals receipts s = accepted_text journals receipts s
accepted_in Json journals receipts s = json.accepted_in journals receipts s

-- of what the audit refuses
abbrev pub refusal_in : Form → Fault → List ℕ
refusal_in Lines fault = refusal_text fault
refusal_in Json fault = refusal_json fault

-- of a replay
abbrev pub report_in : Form → Option Life → List (ℕ × Decree) → List Happening → List Receipt → List (ℕ × Refusal) → List ℕ
report_in Lines life committed history receipts refused = text_of (replay_lines life committed history receipts refused)
report_in Json life committed history receipts refused = replay_json life committed history receipts refused

-- of a run in threads
abbrev pub run_report_in : Form → Option Life → List (ℕ × Decree) → List Happening → List Receipt → List (ℕ × Refusal) → ℕ → List ℕ
run_report_in Lines life committed history receipts refused lost = text_of (run_lines life committed history receipts refused lost)
run_report_in Json life committed history receipts refused lost = run_json life committed history receipts refused lost

-- of what the audit refuses in a chain
abbrev pub chain_refusal_in : Form → ℕ → ChainFault → List ℕ
chain_refusal_in Lines generation fault = text_of (chain_refusal_lines generation fault)
chain_refusal_in Json generation fault = chain_refusal_json generation fault

-- the audit of a bundle accepts, and the text is that of what it says; or it refuses, and the text is that of the first fault
abbrev pub IsJudgedIn : Form → Collected → List Receipt → Bool → List ℕ → Type 0
IsJudgedIn form journals receipts true text =
    (summary : Summary) × IsSummarized (opens journals.opening) journals.faults (journals_of journals) receipts summary × (text ≡ accepted_in form journals receipts summary)
IsJudgedIn form journals receipts false text =
    (fault : Fault) × IsFault (opens journals.opening) journals.faults (journals_of journals) receipts fault × (text ≡ refusal_in form fault)

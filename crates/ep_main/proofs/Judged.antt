-- What an audit says of a bundle, in each form.
use Rattle.std.proofs.Common.{◌≡◌, ℕ, Bool, true, false, List, Result, Ok, Err, IfOk, sym, subst}
use Rattle.ep_journal.specs.Entries.{Collected}
use Rattle.ep_main.specs.Forms.{IsJudgedIn}
use Rattle.ep_main.specs.declared.form.Form.{Form}
use Rattle.ep_main.specs.declared.form.Form.TheVariants.{Lines, Json}
use Rattle.ep_report.specs.Judging.{IsSaid}
use Rattle.ep_report.specs.declared.judgement.Judgement.{Judgement}
use Rattle.ep_report_json.specs.Judging.{IsJudged}
use Rattle.ep_rules.specs.declared.receipt.Receipt.{Receipt}

as_lines : (journals : Collected) (receipts : List Receipt) (accepted : Bool) (text : List ℕ) → IsSaid journals receipts accepted text → IsJudgedIn Lines journals receipts accepted text
as_lines journals receipts true text said = said
as_lines journals receipts false text said = said

as_json : (journals : Collected) (receipts : List Receipt) (accepted : Bool) (text : List ℕ) → IsJudged journals receipts accepted text → IsJudgedIn Json journals receipts accepted text
as_json journals receipts true text said = said
as_json journals receipts false text said = said

pub lines_judged :
    {E : Type 0} (form : Form) (is : form ≡ Lines) (journals : Collected) (receipts : List Receipt) (r : Result Judgement E) →
    IfOk r (λ j. IsSaid journals receipts j.is_accepted j.text.items) → IfOk r (λ j. IsJudgedIn form journals receipts j.is_accepted j.text.items)
lines_judged {E} form is journals receipts (Ok j) said =
    subst (λ f. IsJudgedIn f journals receipts j.is_accepted j.text.items) (sym is) (as_lines journals receipts j.is_accepted j.text.items said)
lines_judged {E} form is journals receipts (Err e) said = tt

pub json_judged :
    {E : Type 0} (form : Form) (is : form ≡ Json) (journals : Collected) (receipts : List Receipt) (r : Result Judgement E) →
    IfOk r (λ j. IsJudged journals receipts j.is_accepted j.text.items) → IfOk r (λ j. IsJudgedIn form journals receipts j.is_accepted j.text.items)
json_judged {E} form is journals receipts (Ok j) said =
    subst (λ f. IsJudgedIn f journals receipts j.is_accepted j.text.items) (sym is) (as_json journals receipts j.is_accepted j.text.items said)
json_judged {E} form is journals receipts (Err e) said = tt

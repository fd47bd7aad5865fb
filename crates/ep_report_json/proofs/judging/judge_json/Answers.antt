use Rattle.std.proofs.Common.{◌≡◌, rules}
use Rattle.std.specs.Option.{option_copied}
use Rattle.ep_audit.specs.declared.summary.Summary.{Summary}
use Rattle.ep_report.specs.Lives.{life_in}
use Rattle.ep_report_json.proofs.Objects.{accepted_as}
use Rattle.ep_report_json.proofs.judging.judge_json.Goals as goal

pub returns-in_ok-text-in-Ok : goal.returns-in_ok-text-in-Ok
returns-in_ok-text-in-Ok c =
    let s : Summary = c.in-Ok.summary in
    let life : option_copied c.as_ref-in-Ok.result ≡ life_in c.args.journals.now s = search rules in
    let committed : c.as_slice.result.now ≡ s.committed.items = search rules in
    let history : c.as_slice-in-Ok.result.now ≡ s.history.items = search rules in
    (s, search rules, accepted_as c.in_ok-text-in-Ok.text.items _ _ _ _ _ _ c.args.receipts.now c.in_ok-text-in-Ok.ensures life committed history)

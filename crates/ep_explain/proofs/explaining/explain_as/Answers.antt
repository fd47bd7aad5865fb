use Rattle.std.proofs.Common.{◌≡◌}
use Rattle.ep_explain.specs.Explained.{script_finding}
use Rattle.ep_explain.proofs.explaining.explain_as.Goals as goal

pub returns-clause-reported : goal.returns-clause-reported
returns-clause-reported g c bytes known =
    let found = c.script_finding.ensures in
    let same = c.in_ok-is_read.is_read-is in
    let finding : c.script_finding.result ≡ script_finding c.in_ok-is_read.field-0.is_read = cc in
    record { is_read = c.in_ok-is_read.field-0.is_read; advice = c.in_ok-is_read.ensures.reported bytes known; found = finding }

use Rattle.ep_explain.proofs.Reporting.{refused_if, judged_if, reported_so, unreported}
use Rattle.ep_explain.proofs.explaining.explain_bytes.Goals as goal

pub returns-in-Ok-clause-reported : goal.returns-in-Ok-clause-reported
returns-in-Ok-clause-reported g c bytes known = judged_if _ bytes c.in-Ok.bundle c.explain_bundle-reported.result (c.in-Ok.ensures.bytes bytes known) c.explain_bundle-reported.ensures.reported

pub returns-in-Ok-clause-failed : goal.returns-in-Ok-clause-failed
returns-in-Ok-clause-failed g c = unreported c.explain_bundle-reported.result _ _ c.explain_bundle-reported.ensures.memory c.in-Ok.ensures.reported

pub returns-in-Err-clause-reported : goal.returns-in-Err-clause-reported
returns-in-Err-clause-reported g c bytes known =
    refused_if _ bytes c.in-Err.fault c.explain_refusal.result (c.in-Err.ensures.bytes bytes known) c.explain_refusal.ensures.reported c.explain_refusal.ensures.named

pub returns-in-Err-clause-failed : goal.returns-in-Err-clause-failed
returns-in-Err-clause-failed g c = reported_so c.explain_refusal.result _ _ _ c.explain_refusal.ensures.failed c.in-Err.ensures.reported

use Rattle.std.proofs.Common.{List, Bool, subst}
use Rattle.ep_main.specs.Forms.{IsJudgedIn}
use Rattle.ep_rules.specs.declared.receipt.Receipt.{Receipt}
use Rattle.ep_main.proofs.auditing.judge_bundle.Goals as goal

pub returns-then-is_accepted-clause-value : goal.returns-then-is_accepted-clause-value
returns-then-is_accepted-clause-value c =
    let said : IsJudgedIn c.args.form c.args.bundle.now.journals c.as_slice.result.now c.in-Ok.judgement.is_accepted c.in-Ok.judgement.text.items = c.in-Ok.ensures in
    subst (λ (a : Bool). IsJudgedIn c.args.form c.args.bundle.now.journals c.args.bundle.now.receipts.items a c.in-Ok.judgement.text.items) c.if-is_accepted.true
    (subst (λ (rs : List Receipt). IsJudgedIn c.args.form c.args.bundle.now.journals rs c.in-Ok.judgement.is_accepted c.in-Ok.judgement.text.items) c.as_slice.ensures.value said)

use Rattle.std.proofs.Common.{subst}
use Rattle.ep_rules.specs.InterferenceSet.{interference}
use Rattle.ep_rules.specs.Phases.{limited}
use Rattle.ep_phase.specs.Changes.{pre_accepted}
use Rattle.ep_phase.specs.Refused.{IsRefused}
use Rattle.ep_frame.specs.Meaning.{sender_at, ballot_at, decree_at}
use Rattle.ep_phase.proofs.Refusals.{passed_on}
use Rattle.ep_phase.proofs.propose.pre_accept.Goals as goal

pub returns-in_err-attrs-clause-refused : goal.returns-in_err-attrs-clause-refused
returns-in_err-attrs-clause-refused c =
    let k = c.args.cell.now in
    let v = c.args.frame.now in
    let x = decree_at v in
    passed_on (λ e. IsRefused (pre_accepted k.instance (sender_at v) (ballot_at v) x (interference k.records k.instance x.command)) e)
    c.in_err-attrs.field-0.0 c.from_residual-in_err-attrs.result c.from_residual-in_err-attrs.ensures.1
    (subst (λ command. (ch : _) → IsRefused (limited (interference k.records k.instance command) ch) c.in_err-attrs.field-0.0) c.in_ok-command.ensures c.in_err-attrs.ensures.refused _)

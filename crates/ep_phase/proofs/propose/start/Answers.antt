use Rattle.ep_rules.specs.InterferenceSet.{interference}
use Rattle.ep_rules.specs.Phases.{propose}
use Rattle.ep_phase.specs.Refused.{IsRefused}
use Rattle.ep_phase.proofs.Refusals.{passed_on}
use Rattle.ep_phase.proofs.propose.start.Goals as goal

pub returns-in_err-attrs-clause-refused : goal.returns-in_err-attrs-clause-refused
returns-in_err-attrs-clause-refused c =
    let k = c.args.cell.now in
    passed_on (λ e. IsRefused (propose k.faults k.instance c.args.spared c.args.command.now (interference k.records k.instance c.args.command.now)) e)
    c.in_err-attrs.field-0.0 c.from_residual.result c.from_residual.ensures.1 (c.in_err-attrs.ensures.refused _)

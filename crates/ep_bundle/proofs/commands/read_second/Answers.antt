use Rattle.std.proofs.Common.{sym, ◌∙◌}
use Rattle.ep_base.specs.CommandParts.{is_twice}
use Rattle.ep_bundle.proofs.Journeys.{mapped}
use Rattle.ep_bundle.proofs.ReadCommands.{run_fails}
use Rattle.ep_bundle.proofs.Readings.{stops}
use Rattle.ep_bundle.proofs.commands.read_second.Goals as goal

pub returns-in_err-read_over-clause-bytes : goal.returns-in_err-read_over-clause-bytes
returns-in_err-read_over-clause-bytes g c = λ y0 e0. stops _ _ _ _ _ _ _ (run_fails _ _ _ _ _ _ _ _ (c.in_err-read_over.ensures.bytes y0 e0)) (mapped (λ _. c.read_over.new.bytes.items) _ _ c.from_residual.ensures.1)

pub returns-clause-other : goal.returns-clause-other
returns-clause-other g c = (c.in_ok-read_over.ensures.long, (λ t. is_twice c.args.first.now (sym c.deref.ensures.value t)) ∙ sym c.is_twice-twice.ensures ∙ c.if-twice.false)

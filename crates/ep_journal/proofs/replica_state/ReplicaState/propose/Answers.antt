use Rattle.std.proofs.Common.{refl, sym, subst}
use Rattle.ep_journal.specs.Stepping.{standing_of, Steps}
use Rattle.ep_journal.specs.declared.event.Event.TheVariants.{Propose}
use Rattle.ep_journal.specs.declared.step_fault.StepFault.TheVariants.{SpaceFull}
use Rattle.ep_journal.proofs.Asked.{request_asked}
use Rattle.ep_journal.proofs.Whole.{refused_on, refused_full}
use Rattle.ep_journal.proofs.replica_state.ReplicaState.propose.Goals as goal

pub returns-in_err-id : goal.returns-in_err-id
returns-in_err-id c = λ client request seen h.
    refused_on (standing_of c.args.self.now) _ (Propose client request c.args.command.now seen c.args.named) c.args.mark SpaceFull c.from_residual.result c.from_residual.ensures.1
    (refused_full c.args.self.now client request seen c.args.command.now c.args.named c.args.mark c.in-Some.mark c.in-Some.is h (c.in_err-id.ensures.full refl)) refl

pub ask-requires-clause-asked : goal.ask-requires-clause-asked
ask-requires-clause-asked c =
    let asks = c.requires.through in
    let next = c.in_ok-id.ensures.ok in
    (Propose asks.0 asks.1 c.args.command.now asks.2 c.args.named, request_asked c.args.self.now asks.0 asks.1 asks.2 c.args.command.now c.args.named c.size.result c.spared_by-spared.result c.in_ok-id.id next.0 c.size.ensures c.spared_by-spared.ensures asks.3 next.1 next.2 next.3)

pub returns : goal.returns
returns c = λ client request seen h.
    let next = c.in_ok-id.ensures.ok in
    subst (λ m. Steps (standing_of c.args.self.now) (Propose client request c.args.command.now seen c.args.named) m c.ask.result (standing_of c.ask.new.self)) (sym c.in-Some.is)
    (c.ask.ensures (Propose client request c.args.command.now seen c.args.named) (request_asked c.args.self.now client request seen c.args.command.now c.args.named c.size.result c.spared_by-spared.result c.in_ok-id.id next.0 c.size.ensures c.spared_by-spared.ensures h next.1 next.2 next.3))

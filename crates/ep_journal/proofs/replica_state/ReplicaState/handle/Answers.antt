use Rattle.std.proofs.Common.{refl, sym, subst}
use Rattle.ep_base.specs.Messages.{instance_of_message}
use Rattle.ep_frame.specs.Meaning.{message_at}
use Rattle.ep_journal.specs.Stepping.{standing_of, Steps}
use Rattle.ep_journal.specs.declared.event.Event.TheVariants.{Handle}
use Rattle.ep_journal.proofs.Asked.{viewed_asked}
use Rattle.ep_journal.proofs.Whole.{refused_unmarked, settled_steps}
use Rattle.ep_journal.proofs.replica_state.ReplicaState.handle.Goals as goal

pub ask-requires-clause-asked : goal.ask-requires-clause-asked
ask-requires-clause-asked c = (
  Handle c.args.frame.now,
  viewed_asked c.args.self.now c.args.frame.now c.view-view.result c.size.result c.instance-id.result c.view-view.ensures.value c.size.ensures c.view-view.ensures.frame c.requires.versioned
      c.in_ok-screen_frame.ensures.ok c.instance-id.ensures.message,
)

pub returns-in_default : goal.returns-in_default
returns-in_default c =
    let p = c.args.self.now in
    let b = c.args.frame.now in
    (refused_unmarked (standing_of p) (Handle b) c.args.mark c.in_default.is (viewed_asked p b c.view-view.result c.size.result (instance_of_message (message_at c.view-view.result)) c.view-view.ensures.value c.size.ensures c.view-view.ensures.frame c.requires.versioned c.in_ok-screen_frame.ensures.ok refl).through, refl)

pub returns-then-settles : goal.returns-then-settles
returns-then-settles c =
    let p = c.args.self.now in
    let b = c.args.frame.now in
    settled_steps p c.settle.new.self (Handle b) c.args.mark c.in-Some.mark c.instance-id.result c.view-view.result c.settle.result c.in-Some.is
    (viewed_asked p b c.view-view.result c.size.result c.instance-id.result c.view-view.ensures.value c.size.ensures c.view-view.ensures.frame c.requires.versioned c.in_ok-screen_frame.ensures.ok c.instance-id.ensures.message)
    (c.settles.ensures c.if-settles.true) c.settle.ensures.ok c.settle.ensures.refused c.settle.ensures.err

pub returns : goal.returns
returns c =
    let p = c.args.self.now in
    let b = c.args.frame.now in
    subst (λ m. Steps (standing_of p) (Handle b) m c.ask.result (standing_of c.ask.new.self)) (sym c.in-Some.is)
    (c.ask.ensures (Handle b)
    (viewed_asked p b c.view-view.result c.size.result c.instance-id.result c.view-view.ensures.value c.size.ensures c.view-view.ensures.frame c.requires.versioned c.in_ok-screen_frame.ensures.ok c.instance-id.ensures.message))

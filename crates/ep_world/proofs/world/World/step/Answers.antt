use Rattle.std.proofs.Common.{ap}
use Rattle.ep_journal.specs.declared.event.Event.TheVariants as taken
use Rattle.ep_world.specs.Playing.{asked}
use Rattle.ep_world.proofs.Refusing.{of_event}
use Rattle.ep_world.proofs.world.World.step.Goals as goal

pub take-requires : goal.take-requires
take-requires c = (c.args.event, ap (asked c.args.self.now) c.in-Propose.is)

pub take-requires-in-GiveUp : goal.take-requires-in-GiveUp
take-requires-in-GiveUp c = (c.args.event, ap (asked c.args.self.now) c.in-GiveUp.is)

pub take-requires-in-Recover : goal.take-requires-in-Recover
take-requires-in-Recover c = (c.args.event, ap (asked c.args.self.now) c.in-Recover.is)

pub take-requires-in-Execute : goal.take-requires-in-Execute
take-requires-in-Execute c = (c.args.event, ap (asked c.args.self.now) c.in-Execute.is)

pub returns-in-Propose-clause-refused : goal.returns-in-Propose-clause-refused
returns-in-Propose-clause-refused c =
    of_event c.args.self.now c.args.event (c.in-Propose.replica, taken.Propose c.in-Propose.client c.in-Propose.request c.in-Propose.command c.in-Propose.seen c.in-Propose.spared) c.take.result c.take.ensures.refused (ap (asked c.args.self.now) c.in-Propose.is)

pub returns-in-GiveUp-clause-refused : goal.returns-in-GiveUp-clause-refused
returns-in-GiveUp-clause-refused c = of_event c.args.self.now c.args.event (c.in-GiveUp.replica, taken.GiveUp c.in-GiveUp.instance) c.take-in-GiveUp.result c.take-in-GiveUp.ensures.refused (ap (asked c.args.self.now) c.in-GiveUp.is)

pub returns-in-Recover-clause-refused : goal.returns-in-Recover-clause-refused
returns-in-Recover-clause-refused c = of_event c.args.self.now c.args.event (c.in-Recover.replica, taken.Recover c.in-Recover.instance) c.take-in-Recover.result c.take-in-Recover.ensures.refused (ap (asked c.args.self.now) c.in-Recover.is)

pub returns-in-Execute-clause-refused : goal.returns-in-Execute-clause-refused
returns-in-Execute-clause-refused c = of_event c.args.self.now c.args.event (c.in-Execute.replica, taken.Execute c.in-Execute.instance) c.take-in-Execute.result c.take-in-Execute.ensures.refused (ap (asked c.args.self.now) c.in-Execute.is)

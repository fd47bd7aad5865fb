use Rattle.ep_journal.specs.declared.event.Event.TheVariants.{Handle}
use Rattle.ep_world.specs.declared.world_event.WorldEvent.TheVariants.{Deliver}
use Rattle.ep_world.proofs.Refusing.{of_event}
use Rattle.ep_world.proofs.world.World.deliver.Goals as goal

pub returns-clause-refused : goal.returns-clause-refused
returns-clause-refused c = of_event c.args.self.now (Deliver c.args.message) (c.in_ok-to.to, Handle c.in_ok-to.frame) c.take.result c.take.ensures.refused c.in_ok-to.ensures.ok

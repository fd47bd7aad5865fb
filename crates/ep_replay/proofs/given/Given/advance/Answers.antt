use Rattle.ep_replay.proofs.Flagging.{raised}
use Rattle.ep_replay.proofs.given.Given.advance.Goals as goal

pub returns-else-index : goal.returns-else-index
returns-else-index c = λ given. raised c.args.self.now (record { floor = c.loop-self.self.floor; flags = c.loop-self.self.flags }) given c.loop-self.invariant.same c.loop-self.invariant.set

pub returns-after-loop-self : goal.returns-after-loop-self
returns-after-loop-self c = λ given. raised c.args.self.now (record { floor = c.loop-self.self.floor; flags = c.loop-self.self.flags }) given c.loop-self.invariant.same c.loop-self.invariant.set

use Rattle.std.proofs.Common.{take}
use Rattle.ep_world.specs.Playing.{Happen}
use Rattle.ep_world.proofs.world.World.play_all.Given as goal

abbrev pub invariant-loop-index : goal.invariant-loop-index
invariant-loop-index l = Happen l.fn.self (take l.index l.events) l.self

use Rattle.std.proofs.Common.{rules, ◌<◌, length, refl}
use Rattle.ep_world.proofs.Laws.{happen_more, ends_at}
use Rattle.ep_world.proofs.world.World.play_all.Goals as goal

pub returns-in-Err-clause-refused : goal.returns-in-Err-clause-refused
returns-in-Err-clause-refused c =
    let events = c.args.events.now in
    let event = c.index-events-index.result in
    let less : c.loop-index.index < length events = search rules in
    ends_at c.args.self.now c.loop-index.self c.step_copy.new.self events c.loop-index.index event event c.in-Err.cause less c.index-events-index.is c.in-Err.ensures.err c.loop-index.invariant c.in-Err.ensures.refused

pub loop-index-preserved : goal.loop-index-preserved
loop-index-preserved c =
    let events = c.args.events.now in
    let event = c.index-events-index.result in
    let less : c.loop-index.index < length events = search rules in
    happen_more c.args.self.now c.loop-index.self c.step_copy.new.self events c.loop-index.index _ event event refl less c.index-events-index.is c.loop-index.invariant c.in-Ok.ensures.ok

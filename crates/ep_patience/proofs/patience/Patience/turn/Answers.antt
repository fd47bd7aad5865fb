use Rattle.ep_patience.proofs.Turning.{one_turned}
use Rattle.ep_patience.proofs.patience.Patience.turn.Goals as goal

pub loop-one-preserved : goal.loop-one-preserved
loop-one-preserved c =
    one_turned c.args.self.now c.time_at-time.result c.args.seen.now c.loop-one.one-index c.one-item.result c.loop-one.all.entries c.loop-one.first c.loop-one.asked.items
    c.loop-one-test.true c.one-item.is c.requires c.has_room-room.ensures c.most-most.ensures c.outlook-outlook.ensures c.remedy-remedy.ensures c.after-waiting.ensures c.earlier.ensures c.in_ok-put.ensures.ok c.granted.ensures c.in_ok-add.ensures c.loop-one.invariant

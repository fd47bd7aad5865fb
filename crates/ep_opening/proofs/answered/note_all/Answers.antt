use Rattle.ep_opening.proofs.Noted.{noted_more}
use Rattle.ep_opening.proofs.answered.note_all.Goals as goal

pub loop-instance-preserved : goal.loop-instance-preserved
loop-instance-preserved c =
    noted_more c.args.done.now c.loop-instance.instance-index c.loop-instance-item.result.0 c.loop-instance-item.result.1 c.args.set.now.list c.loop-instance.set.list c.note.new.set.list
    c.loop-instance-test.true c.loop-instance-item.is c.loop-instance.invariant c.in_ok-note.ensures

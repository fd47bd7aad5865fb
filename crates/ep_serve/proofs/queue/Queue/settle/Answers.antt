use Rattle.std.proofs.Common.{rules}
use Rattle.ep_serve.proofs.States.{settled_kept}
use Rattle.ep_serve.proofs.queue.Queue.settle.Goals as goal

-- (no name of a branch stands here, so that a body without it is refused by its goals)
pub returns-clause-kept : goal.returns-clause-kept
returns-clause-kept g c =
    settled_kept c.args.node.now.digest g.D.Device.seen g.D.Device.moment g.D.Device.left_since c.args.node.now.device c.put_on_disk.new.node c.put_answers.new.node c.args.node.now.replica c.put_answers.result c.put_answers.ensures.same (search rules)

use Rattle.ep_opening.proofs.Led.{below_pushed, below_rises}
use Rattle.ep_opening.proofs.answered.push_if.Goals as goal

pub push-requires : goal.push-requires
push-requires c = below_rises c.args.set.now.list c.args.instance c.args.list.now c.requires

pub returns-in_ok-push : goal.returns-in_ok-push
returns-in_ok-push c = below_pushed c.args.set.now.list c.args.instance c.args.list.now c.push.new.self c.requires (c.contains.ensures.0 c.if-contains.true) c.in_ok-push.ensures.ok

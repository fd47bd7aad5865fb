use Rattle.ep_opening.proofs.Noted.{gains_one}
use Rattle.ep_opening.proofs.answered.add.Goals as goal

pub returns : goal.returns
returns c = gains_one c.args.set.now.list c.reserve_one.new.self.list c.add.new.self.list c.args.instance c.place-place.ensures.in_range c.reserve_one.ensures.list c.add.ensures.new c.add.ensures.old

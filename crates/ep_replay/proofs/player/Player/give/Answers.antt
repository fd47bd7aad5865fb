use Rattle.ep_replay.proofs.Leading.{gave}
use Rattle.ep_replay.proofs.player.Player.give.Goals as goal

pub returns : goal.returns
returns c = gave c.args.self.now c.note.new.self c.hand_over.new.self c.args.line c.args.message c.in_ok-note.ensures c.in_ok-hand_over.ensures

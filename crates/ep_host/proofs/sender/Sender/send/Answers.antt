use Rattle.ep_host.proofs.Mailing.{mailed_lost}
use Rattle.ep_host.proofs.sender.Sender.send.Goals as goal

pub returns : goal.returns
returns g c = mailed_lost c.args.sending.frames.items c.args.sending.lost c.args.self.now c.send_all.new.self c.lose.new.self c.send_all.ensures c.lose.ensures

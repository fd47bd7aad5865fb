use Rattle.ep_host.proofs.Rooming.{roomy_new}
use Rattle.ep_host.proofs.host_sender.HostSender.new.Goals as goal

pub invariant_of-result : goal.invariant_of-result
invariant_of-result g c = roomy_new g.S.Start.room c.args.inboxes.now c.args.me c.in_ok-sender.sender c.requires.me c.requires.room c.in_ok-sender.ensures

use Rattle.ep_host.proofs.Mailing.{new_addressed}
use Rattle.ep_host.proofs.sender.Sender.new.Goals as goal

pub invariant_of-result : goal.invariant_of-result
invariant_of-result c = new_addressed c.args.inboxes.now c.in_ok-outlets.outlets.items c.in_ok-outlets.ensures

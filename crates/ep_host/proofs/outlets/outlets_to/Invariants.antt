use Rattle.std.proofs.Common.{take}
use Rattle.ep_host.specs.Outboxes.{AreNew}
use Rattle.ep_host.proofs.outlets.outlets_to.Given as goal

abbrev pub invariant-loop-inbox : goal.invariant-loop-inbox
invariant-loop-inbox l = AreNew (take l.inbox-index l.inboxes) l.outlets.items

use Rattle.ep_host.specs.Outboxes.{IsMailed}
use Rattle.ep_host.proofs.sender.Sender.send_all.Given as goal

abbrev pub invariant-loop-frame : goal.invariant-loop-frame
invariant-loop-frame g l = IsMailed l.yielded 0 l.initial.self l.self

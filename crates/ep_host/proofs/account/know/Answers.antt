use Rattle.std.proofs.Common.{subst, arith}
use Rattle.ep_host.specs.Host.{Knows}
use Rattle.ep_host.specs.Node.{Node}
use Rattle.ep_host.proofs.account.know.Goals as goal

pub returns : goal.returns
returns c = subst (λ (n : Node). Knows n) c.node.view_is record {
  booked = c.node.invariant.0;
  opens = rw (← c.journal-journal.ensures.version, ← c.journal-journal.ensures.opening) c.opening-opening.ensures.opens;
  journal = rw (← c.journal-journal.ensures.version, ← c.journal-journal.ensures.opening, ← c.journal-journal.ensures.faults, ← c.journal-journal.ensures.me, ← c.journal-journal.ensures.entries) c.entries-run.ensures.run;
  clocked = rw (← c.journal-journal.ensures.entries) c.journal-journal.ensures.clocked;
  some = (let v = c.faults-faults.ensures.value in let r = c.faults-faults.ensures.in_range in let s = c.size.ensures in omega (arith, v, r, s));
}

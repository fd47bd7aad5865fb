use Rattle.std.proofs.Common.{arith}
use Rattle.ep_replica.proofs.Placed.{top_read}
use Rattle.ep_replica.proofs.Trying.{next_none}
use Rattle.ep_replica.proofs.replica.Replica.next_ready.Goals as goal

pub returns : goal.returns
returns c = next_none c.args.self.now c.args.after c.loop-number.number (λ i r is.
    let low = top_read c.journal.result.now c.args.self.now c.highest-number-end.result c.journal.ensures.opening c.journal.ensures.faults c.journal.ensures.me c.journal.ensures.entries c.highest-number-end.ensures.all i r is in
    let past = c.loop-number-test.false in
    omega (arith, low, past)) c.loop-number.invariant.none

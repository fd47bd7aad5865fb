use Rattle.std.proofs.Common.{take, arith}
use Rattle.ep_space.proofs.Opening.{next_found, least_whole}
use Rattle.ep_space.proofs.Spots.{take-item}
use Rattle.ep_space.proofs.space.Space.next_open.Goals as goal

pub loop-id-preserved : goal.loop-id-preserved
loop-id-preserved c =
    let es = c.entries-entries.result.now in
    let k = c.loop-id.id-index in
    rw (take-item es k c.loop-id-item.result c.loop-id-test.true c.loop-id-item.is) (c.least_with-found.ensures (take k es) c.loop-id.invariant)

pub returns : goal.returns
returns c =
    let es = c.entries-entries.result.now in
    let test = c.loop-id-test.false in
    next_found c.args.self.now.records c.args.after es c.loop-id.found c.entries-entries.ensures
    (least_whole c.args.self.now.records c.args.after es c.loop-id.id-index c.loop-id.found (omega (arith, test)) c.loop-id.invariant)

use Rattle.std.proofs.Common.{subst, sym, ◌+◌, Some}
use Rattle.ep_node.proofs.OpenReported.{last_reported, most_reported, one_reported, Completes}
use Rattle.ep_node.proofs.reporting.open_in.Goals as goal

pub returns-in_default : goal.returns-in_default
returns-in_default c = last_reported c.args.replica.now c.args.most c.loop.counter c.loop.above c.loop.reported.items c.loop-test.true c.in_default.ensures c.loop.invariant

pub loop-preserved : goal.loop-preserved
loop-preserved c =
    subst (λ xs. Completes c.args.replica.now c.args.most (c.loop.counter + 1) (Some c.in-Some.instance) xs) (sym c.in_ok-push.ensures.items)
    (one_reported c.args.replica.now c.args.most c.loop.counter _ c.loop.above _ c.loop.reported.items c.loop-test.true c.in-Some.ensures c.open_as.ensures c.loop.invariant)

pub returns : goal.returns
returns c = most_reported c.args.replica.now c.args.most c.loop.counter c.loop.above c.loop.reported.items c.loop-test.false c.loop.invariant

use Rattle.ep_audit.proofs.Linking.{parted_here, unjudged_unfollowed}
use Rattle.ep_audit.proofs.chain.follow.Goals as goal

pub returns-in-Err-clause-refused : goal.returns-in-Err-clause-refused
returns-in-Err-clause-refused c = unjudged_unfollowed c.args.before.now c.args.verdict.now c.args.link.now c.args.place c.in-Some.closing c.in-Err.refusal c.in-Some.is c.in-Err.ensures.refused

pub returns-in-Some-2-clause-refused : goal.returns-in-Some-2-clause-refused
returns-in-Some-2-clause-refused c =
    parted_here c.args.before.now c.args.verdict.now c.args.link.now c.in-Ok.next c.args.place c.in-Some.closing c.in-Some-2.fault c.in_ok-parting.field-0 c.in-Some.is c.in-Ok.ensures.ok c.in-Some-2.is c.in_ok-parting.ensures

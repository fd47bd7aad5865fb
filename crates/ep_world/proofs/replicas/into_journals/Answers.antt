use Rattle.ep_world.proofs.Kept.{theirs_more}
use Rattle.ep_world.proofs.replicas.into_journals.Goals as goal

pub loop-replica-preserved : goal.loop-replica-preserved
loop-replica-preserved c =
    let j = c.journal_of.result in
    let k = c.in-Some.replica in
    theirs_more c.loop-replica.yielded c.loop-replica.journals.items c.push.new.self.items k j c.in_ok-push.ensures.items c.journal_of.ensures.value c.journal_of.ensures.run c.loop-replica.invariant

use Rattle.ep_frame.specs.Meaning.{decree_at}
use Rattle.ep_phase.specs.InstanceViews.{record_of}
use Rattle.ep_phase.proofs.Settled.{same_settled}
use Rattle.ep_phase.proofs.commit.has_voted_for.Goals as goal

pub returns-in-Some : goal.returns-in-Some
returns-in-Some c =
    let k = c.args.cell.now in
    same_settled k.instance (record_of k) (record_of k).vote c.in-Some.vote.now (decree_at c.args.frame.now) c.has_decree.result c.in-Some.ensures c.has_decree.ensures

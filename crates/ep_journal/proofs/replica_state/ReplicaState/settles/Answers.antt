use Rattle.ep_journal.proofs.Asked.{settles_at}
use Rattle.ep_journal.proofs.replica_state.ReplicaState.settles.Goals as goal

pub returns-in-Commit : goal.returns-in-Commit
returns-in-Commit c = λ holds. settles_at c.args.self.now c.args.id c.args.frame.now c.of-cell.result c.of-cell.ensures (c.is_settled_by.ensures holds)

use Rattle.ep_node.proofs.Noting.{commits_more}
use Rattle.ep_node.proofs.reporting.commits_by.Goals as goal

pub loop-entry-preserved : goal.loop-entry-preserved
loop-entry-preserved c = λ all first.
    commits_more all c.args.entries.now c.loop-entry.entry-index c.entry-item.result c.loop-entry.committed.items c.add_commit.new.committed.items _ c.loop-entry-test.true c.entry-item.is (c.in_ok-add_commit.ensures all first) (c.loop-entry.invariant all first)

use Rattle.std.proofs.Common.{◌≤◌, ◌+◌, length, arith}
use Rattle.ep_journal.specs.Inputs.{receives}
use Rattle.ep_journal.proofs.Spelling.{those_next}
use Rattle.ep_journal.proofs.frames.receivers_of.Goals as goal

pub loop-r-preserved : goal.loop-r-preserved
loop-r-preserved c = record {
  few = c.add_if.ensures.few;
  sent = λ m. those_next (receives c.args.cell.now c.args.multicast.now.to) c.loop-r.r m c.loop-r.chosen c.add_if.new.chosen (c.loop-r.invariant.sent m) (c.add_if.ensures.sent m);
}

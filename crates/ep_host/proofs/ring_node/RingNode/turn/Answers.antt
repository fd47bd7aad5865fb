use Rattle.std.proofs.Common.{◌||◌, ◌∙◌, ap}
use Rattle.ep_host.specs.Turns.{has_moved}
use Rattle.ep_host.proofs.Following.{turn_follows}
use Rattle.ep_host.proofs.Turning.{moved_back}
use Rattle.ep_host.proofs.ring_node.RingNode.turn.Goals as goal

pub returns-clause-turns : goal.returns-clause-turns
returns-clause-turns c = record {
  after_frames = c.take_all-taken.new.self;
  after_task = c.begin-begun.new.self;
  taken = c.take_all-taken.result;
  begun = c.begin-begun.result;
  executed = c.execute-executed.result;
  moves = ap has_moved c.of.ensures ∙ moved_back (c.take_all-taken.result || c.begin-begun.result || c.execute-executed.result);
  takes = c.take_all-taken.ensures;
  begins = c.begin-begun.ensures;
  executes = c.execute-executed.ensures;
}

pub returns-clause-follows : goal.returns-clause-follows
returns-clause-follows c = turn_follows (has_moved c.of.result) c.args.self.now c.execute-executed.new.self (returns-clause-turns c)

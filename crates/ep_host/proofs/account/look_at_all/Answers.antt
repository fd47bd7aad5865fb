use Rattle.ep_host.proofs.Looking.{all_begin_after, all_from_after}
use Rattle.ep_host.proofs.account.look_at_all.Goals as goal

pub returns-clause-begins : goal.returns-clause-begins
returns-clause-begins c = all_begin_after c.requires.0 c.args.nodes.now c.taken_was_sent.new.nodes c.requires.1 c.taken_was_sent.ensures.looked c.taken_was_sent.ensures.begins

pub returns-clause-from : goal.returns-clause-from
returns-clause-from c = all_from_after c.requires.0 c.args.nodes.now c.taken_was_sent.new.nodes c.requires.1 c.taken_was_sent.ensures.looked c.taken_was_sent.ensures.from

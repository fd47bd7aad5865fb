use Rattle.ep_host.proofs.Accepting.{all_from}
use Rattle.ep_host.proofs.Hosts.{all_sent}
use Rattle.ep_host.proofs.account.taken_was_sent.Goals as goal

pub returns-clause-sent : goal.returns-clause-sent
returns-clause-sent c = all_sent c.requires.0 c.args.nodes.now c.requires.1 c.know_all.ensures c.account.ensures.begins

pub returns-clause-from : goal.returns-clause-from
returns-clause-from c = all_from c.requires.0 c.args.nodes.now c.requires.1 c.know_all.ensures c.account.ensures.begins

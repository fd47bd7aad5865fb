use Rattle.ep_host.proofs.Accepting.{host_accepted, receipts_own, looked_replicas}
use Rattle.ep_host.proofs.Looking.{host_looked}
use Rattle.ep_host.proofs.account.are_accepted.Goals as goal

pub returns-clause-accepted : goal.returns-clause-accepted
returns-clause-accepted c = λ f receipts host own. host_accepted f c.args.nodes.now receipts host c.taken_was_sent.ensures.knows c.taken_was_sent.ensures.sent own

pub returns-clause-own : goal.returns-clause-own
returns-clause-own c = λ f host. receipts_own f c.args.nodes.now host c.taken_was_sent.ensures.knows

pub returns-clause-host : goal.returns-clause-host
returns-clause-host c = λ f host. host_looked f c.args.nodes.now c.taken_was_sent.new.nodes c.taken_was_sent.ensures.looked host

pub returns-clause-replicas : goal.returns-clause-replicas
returns-clause-replicas c = looked_replicas c.args.nodes.now c.taken_was_sent.new.nodes c.taken_was_sent.ensures.looked

use Rattle.ep_host.proofs.Looks.{each_settles, host_settled}
use Rattle.ep_host.proofs.settling.settle.Goals as goal

pub look_at_all-requires : goal.look_at_all-requires
look_at_all-requires c = (c.requires.0, host_settled c.args.rounds c.requires.0 c.args.nodes.now c.turn_all.new.nodes c.turn_all.ensures.nodes c.requires.1)

pub returns-clause-nodes : goal.returns-clause-nodes
returns-clause-nodes c = each_settles c.args.rounds c.args.nodes.now c.turn_all.new.nodes c.look_at_all.new.nodes c.turn_all.ensures.nodes c.look_at_all.ensures.looked

pub returns-clause-rounds : goal.returns-clause-rounds
returns-clause-rounds c = record { last = c.turn_all.new.nodes; rounds = c.turn_all.ensures.rounds; looked = c.look_at_all.ensures.looked }

pub returns-clause-host : goal.returns-clause-host
returns-clause-host c = λ f host. host_settled c.args.rounds f c.args.nodes.now c.look_at_all.new.nodes (each_settles c.args.rounds c.args.nodes.now c.turn_all.new.nodes c.look_at_all.new.nodes c.turn_all.ensures.nodes c.look_at_all.ensures.looked) host

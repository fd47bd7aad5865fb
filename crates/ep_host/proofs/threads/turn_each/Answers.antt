use Rattle.ep_host.proofs.Looks.{each_runs, each_turned, were_let_looked, host_ran}
use Rattle.ep_host.proofs.threads.turn_each.Goals as goal

pub look_at_all-requires : goal.look_at_all-requires
look_at_all-requires g c = (c.requires.host.0, host_ran c.requires.host.0 c.args.nodes.now c.run_each.new.nodes c.run_each.ensures.runs c.requires.host.1)

pub returns-clause-runs : goal.returns-clause-runs
returns-clause-runs g c = each_runs c.args.nodes.now c.run_each.new.nodes c.look_at_all.new.nodes c.run_each.ensures.runs c.look_at_all.ensures.looked

pub returns-clause-turns : goal.returns-clause-turns
returns-clause-turns g c = each_turned c.args.turns c.args.nodes.now c.run_each.new.nodes c.look_at_all.new.nodes c.run_each.ensures.turns c.look_at_all.ensures.looked

pub returns-clause-gate : goal.returns-clause-gate
returns-clause-gate g c = were_let_looked (g.G.Gate.lets c.args.gate.now) c.run_each.new.nodes c.look_at_all.new.nodes c.look_at_all.ensures.looked c.run_each.ensures.gate

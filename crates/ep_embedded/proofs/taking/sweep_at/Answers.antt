use Rattle.ep_wire.specs.declared.request.Request.TheVariants as request
use Rattle.ep_embedded.proofs.Longer.{acts_grow, undone_grows}
use Rattle.ep_embedded.proofs.taking.sweep_at.Goals as goal

pub returns-in_err-_reported-clause-grows : goal.returns-in_err-_reported-clause-grows
returns-in_err-_reported-clause-grows c = undone_grows c.args.node.now c.act.new.node request.ExecuteAll c.in_err-_reported.ensures.err

pub returns-clause-grows : goal.returns-clause-grows
returns-clause-grows c = acts_grow c.args.node.now.replica c.act.new.node.replica request.ExecuteAll c.in_ok-_reported._reported c.in_ok-_reported.ensures.ok

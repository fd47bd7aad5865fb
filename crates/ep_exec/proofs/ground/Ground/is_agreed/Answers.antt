use Rattle.ep_exec.specs.Layers.{layers_of}
use Rattle.ep_exec.proofs.Agreement.{agreed_listing, no_test, own_at_all, own_in}
use Rattle.ep_exec.proofs.ground.Ground.is_agreed.Goals as goal

pub returns-then-agree_at-clause-same : goal.returns-then-agree_at-clause-same
returns-then-agree_at-clause-same c =
    agreed_listing c.args.one.now c.args.other.now c.args.self.now c.self.inside.listing c.entries.result.now c.deref.result.now c.self.inside.older.items c.agree_at.result c.agree_in.result
    c.entries.ensures c.deref.ensures.value c.self.view_is c.if-agree_at.true c.agree_at.ensures c.agree_in.ensures

pub returns-then-agree_at-clause-own : goal.returns-then-agree_at-clause-own
returns-then-agree_at-clause-own c = own_in c.args.one.now c.args.other.now (layers_of c.deref.result.now) c.agree_in.result c.agree_in.ensures

pub returns-else-agree_at-clause-same : goal.returns-else-agree_at-clause-same
returns-else-agree_at-clause-same c = no_test c.args.one.now c.args.other.now c.args.self.now c.agree_at.result c.if-agree_at.false

pub returns-else-agree_at-clause-own : goal.returns-else-agree_at-clause-own
returns-else-agree_at-clause-own c = own_at_all c.args.one.now c.args.other.now c.entries.result.now c.agree_at.result c.agree_at.ensures

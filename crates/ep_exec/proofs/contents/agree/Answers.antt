use Rattle.std.proofs.Common.{refl}
use Rattle.ep_exec.specs.Layers.{layers_of, stacked}
use Rattle.ep_exec.proofs.Agreement.{agreed_over, no_test, own_in}
use Rattle.ep_exec.proofs.contents.agree.Goals as goal

pub returns-then-is_agreed-clause-same : goal.returns-then-is_agreed-clause-same
returns-then-is_agreed-clause-same c =
    let ls = c.args.layers.now in
    agreed_over c.args.one.now c.args.other.now (stacked c.args.ground.now (layers_of ls)) c.args.ground.now ls ls c.is_agreed.result c.agree_in.result refl refl c.if-is_agreed.true c.is_agreed.ensures.same c.agree_in.ensures

pub returns-then-is_agreed-clause-own : goal.returns-then-is_agreed-clause-own
returns-then-is_agreed-clause-own c = own_in c.args.one.now c.args.other.now (layers_of c.args.layers.now) c.agree_in.result c.agree_in.ensures

pub returns-else-is_agreed-clause-same : goal.returns-else-is_agreed-clause-same
returns-else-is_agreed-clause-same c = no_test c.args.one.now c.args.other.now (stacked c.args.ground.now (layers_of c.args.layers.now)) c.is_agreed.result c.if-is_agreed.false

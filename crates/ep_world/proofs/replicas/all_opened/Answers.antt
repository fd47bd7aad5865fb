use Rattle.std.proofs.Common.{◌≡◌, arith}
use Rattle.ep_base.specs.Quorums.{size}
use Rattle.ep_world.proofs.Kept.{Whole, more_fresh, still_none, whole}
use Rattle.ep_world.proofs.replicas.all_opened.Goals as goal
use Rattle.ep_world.proofs.replicas.all_opened.Goals.{After-loop-number}

pub loop-number-preserved : goal.loop-number-preserved
loop-number-preserved c =
    let f = c.args.cluster in
    let r = c.loop-number.number in
    let ks = c.loop-number.replicas.items in
    record {
      replicas = more_fresh c.args.beginning.now.version c.args.beginning.now.opening f r ks c.push.new.self.items c.in_ok-replica.replica c.in_ok-push.ensures.items c.in_ok-replica.ensures c.loop-number.invariant.replicas;
      entries = still_none c.args.beginning.now.version c.args.beginning.now.opening f r ks c.push.new.self.items c.in_ok-replica.replica c.in_ok-push.ensures.items c.in_ok-replica.ensures c.loop-number.invariant.entries;
    }

all : (c : After-loop-number) → Whole c.args.beginning.now.version c.args.beginning.now.opening c.args.cluster c.loop-number.replicas.items
all c =
    let v : c.count-number-end.result ≡ size c.args.cluster = c.count-number-end.ensures.value in
    let at : c.loop-number.number ≡ size c.args.cluster = omega arith in
    whole c.args.beginning.now.version c.args.beginning.now.opening c.args.cluster c.loop-number.number c.loop-number.replicas.items at c.loop-number.invariant.replicas

pub returns-clause-replicas : goal.returns-clause-replicas
returns-clause-replicas c = (all c).all

pub returns-clause-version : goal.returns-clause-version
returns-clause-version c = (all c).version

pub returns-clause-opening : goal.returns-clause-opening
returns-clause-opening c = (all c).opening

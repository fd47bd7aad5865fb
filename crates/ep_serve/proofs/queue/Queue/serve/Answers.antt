use Rattle.std.proofs.Common.{ap, inl, subst, sym}
use Rattle.ep_replica.specs.Kept.{Kept}
use Rattle.ep_serve.specs.Acting.{Acts}
use Rattle.ep_serve.proofs.Growing.{acts_more}
use Rattle.ep_serve.proofs.Keeping.{kept_as, known_same, onward_before}
use Rattle.ep_serve.proofs.Sweeping.{at_error}
use Rattle.ep_serve.proofs.States.{settled_so, unwritten_of, written_out}
use Rattle.ep_serve.proofs.queue.Queue.serve.Goals as goal

pub returns-in_err-settle-clause-done : goal.returns-in_err-settle-clause-done
returns-in_err-settle-clause-done g c =
    at_error _ (inl (c.in_ok-add.ensures.ok.0, subst (λ (x : Kept). Acts c.args.node.now.replica c.args.request c.in_ok-add.ensures.ok.0 x) (sym c.settle.ensures.replica) c.in_ok-add.ensures.ok.1))

pub returns-in_err-settle-clause-unwritten : goal.returns-in_err-settle-clause-unwritten
returns-in_err-settle-clause-unwritten g c =
    unwritten_of _ _ _ c.from_residual-in_err-settle.ensures.1 (λ failed. (
      settled_so _ _ c.in_err-settle.ensures.quiet failed,
      kept_as c.args.node.now.digest c.add.new.node.digest g.D.Device.seen g.D.Device.moment g.D.Device.left_since _ _ _ _ _ (ap (λ n. n.digest) c.add.ensures.same.0) (ap (λ n. n.device) c.add.ensures.same.0) c.settle.ensures.replica (settled_so _ _ c.in_err-settle.ensures.kept failed),
    ))

pub returns-in_err-settle-clause-onward : goal.returns-in_err-settle-clause-onward
returns-in_err-settle-clause-onward g c =
    onward_before g.D.Device.seen g.D.Device.moment g.D.Device.left_since c.args.node.now c.add.new.node _ c.add.ensures.same.0 c.requires.within (acts_more _ _ _ _ c.in_ok-add.ensures.ok.1) c.settle.ensures.onward

pub returns-in_ok-settle-clause-ok : goal.returns-in_ok-settle-clause-ok
returns-in_ok-settle-clause-ok g c =
    written_out _ _ _ c.args.node.now c.add.new.node c.settle.new.node _ _ _ _ _ _ _ _ c.in_ok-add.ensures.ok c.add.ensures.same.0 c.add.ensures.same.1 c.may_wait.ensures c.is_sync-asks.ensures c.if-not-may_wait.true c.settle.ensures.replica c.in_ok-settle.ensures.ok c.in_ok-settle.ensures.quiet
    (kept_as c.args.node.now.digest c.add.new.node.digest g.D.Device.seen g.D.Device.moment g.D.Device.left_since _ _ _ _ _ (ap (λ n. n.digest) c.add.ensures.same.0) (ap (λ n. n.device) c.add.ensures.same.0) c.settle.ensures.replica c.in_ok-settle.ensures.kept)

pub returns-in_ok-settle-clause-onward : goal.returns-in_ok-settle-clause-onward
returns-in_ok-settle-clause-onward g c =
    onward_before g.D.Device.seen g.D.Device.moment g.D.Device.left_since c.args.node.now c.add.new.node _ c.add.ensures.same.0 c.requires.within (acts_more _ _ _ _ c.in_ok-add.ensures.ok.1) c.settle.ensures.onward

pub returns-else-not-may_wait-clause-known : goal.returns-else-not-may_wait-clause-known
returns-else-not-may_wait-clause-known g c = known_same g.D.Device.seen _ _ (ap (λ n. n.device) c.add.ensures.same.0)

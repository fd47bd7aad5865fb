use Rattle.std.proofs.Common.{arith, refl, ◌∙◌}
use Rattle.ep_serve.proofs.Keeping.{known_on}
use Rattle.ep_serve.proofs.Runs.{ends_badly, ends_never, ends_well}
use Rattle.ep_serve.proofs.States.{all_settled, stands_first, stands_next, stopped, stopped_settling, within_on, works_on}
use Rattle.ep_serve.proofs.serving.serve.Goals as goal

pub loop-init : goal.loop-init
loop-init g c = record {
  mode = refl;
  works = c.requires.works;
  within = let e = c.requires.synced in omega arith;
  known = λ bytes was. (bytes, was);
  own = refl;
  sink = refl;
  log = refl;
  source = refl;
  served = λ mode is zs h. stands_first g.D.Device.seen g.D.Device.moment g.D.Device.left_since mode _ zs _ _ _ c.requires h c.new-queue.ensures.0 (c.is_at_rest.ensures c.requires.works);
}

pub returns-in_err-serve-in-Ok-Some-clause-served : goal.returns-in_err-serve-in-Ok-Some-clause-served
returns-in_err-serve-in-Ok-Some-clause-served g c = λ zs h.
    let i = c.loop.invariant.served _ c.new-queue.ensures.1 zs h in
    stopped g.D.Device.seen g.D.Device.moment g.D.Device.left_since _ _ _ _ zs _ _ _ _ _ _ _ _ _ _ _ _ _ i c.loop.invariant.own c.dialect_of-dialect.ensures (c.in-Ok-Some.ensures.bytes i.ys i.left_is) c.in-Ok-Some.field-0-is c.in_err-serve-in-Ok-Some.ensures.done c.in_err-serve-in-Ok-Some.ensures.silent c.in_err-serve-in-Ok-Some.ensures.unwritten c.serve.ensures.onward c.loop.invariant.known c.from_residual.ensures.1

pub returns-in_err-settle-in-Ok-None-clause-served : goal.returns-in_err-settle-in-Ok-None-clause-served
returns-in_err-settle-in-Ok-None-clause-served g c = λ zs h.
    stopped_settling g.D.Device.seen g.D.Device.moment g.D.Device.left_since _ _ _ c.settle.new.node zs _ _ _ _ _ _ _ _ (c.loop.invariant.served _ c.new-queue.ensures.1 zs h) c.loop.invariant.own c.settle.ensures.replica c.in_err-settle-in-Ok-None.ensures.silent c.in_err-settle-in-Ok-None.ensures.kept c.settle.ensures.onward c.loop.invariant.known c.from_residual-in_err-settle-in-Ok-None.ensures.1

pub returns-in-Ok-None-clause-served : goal.returns-in-Ok-None-clause-served
returns-in-Ok-None-clause-served g c = λ zs h.
    let i = c.loop.invariant.served _ c.new-queue.ensures.1 zs h in
    ends_well _ _ _ _ _ _ _ _ _ _ _ _ _ c.dialect_of-dialect.ensures
    (all_settled g.D.Device.seen g.D.Device.moment g.D.Device.left_since _ _ _ c.settle.new.node zs _ _ _ _ _ _ _ i c.loop.invariant.own c.settle.ensures.replica c.in_ok-settle-in-Ok-None.ensures.ok c.in_ok-settle-in-Ok-None.ensures.kept c.settle.ensures.onward c.loop.invariant.known)
    (c.in-Ok-None.ensures.bytes i.ys i.left_is) c.in-Ok-None.field-0-is

pub returns-in_err-settle-in-Err-clause-served : goal.returns-in_err-settle-in-Err-clause-served
returns-in_err-settle-in-Err-clause-served g c = λ zs h.
    stopped_settling g.D.Device.seen g.D.Device.moment g.D.Device.left_since _ _ _ c.settle-in-Err.new.node zs _ _ _ _ _ _ _ _ (c.loop.invariant.served _ c.new-queue.ensures.1 zs h) c.loop.invariant.own c.settle-in-Err.ensures.replica c.in_err-settle-in-Err.ensures.silent c.in_err-settle-in-Err.ensures.kept c.settle-in-Err.ensures.onward c.loop.invariant.known c.from_residual-in_err-settle-in-Err.ensures.1

pub returns-in-Err-clause-served : goal.returns-in-Err-clause-served
returns-in-Err-clause-served g c = λ zs h.
    let i = c.loop.invariant.served _ c.new-queue.ensures.1 zs h in
    ends_badly _ _ _ _ _ _ _ _ _ _ _ _ _ _ c.dialect_of-dialect.ensures
    (all_settled g.D.Device.seen g.D.Device.moment g.D.Device.left_since _ _ _ c.settle-in-Err.new.node zs _ _ _ _ _ _ _ i c.loop.invariant.own c.settle-in-Err.ensures.replica c.in_ok-settle-in-Err.ensures.ok c.in_ok-settle-in-Err.ensures.kept c.settle-in-Err.ensures.onward c.loop.invariant.known)
    (c.in-Err.ensures.bytes i.ys i.left_is) c.into.ensures

pub loop-preserved : goal.loop-preserved
loop-preserved g c = record {
  mode = c.serve.ensures.mode ∙ c.loop.invariant.mode;
  works = works_on _ c.loop.node c.serve.new.node _ _ _ _ _ _ c.loop.invariant.works c.in_ok-serve-in-Ok-Some.ensures.ok;
  within = within_on _ c.loop.node c.serve.new.node _ _ _ _ _ _ c.loop.invariant.within c.in_ok-serve-in-Ok-Some.ensures.ok;
  known = known_on g.D.Device.seen _ _ _ c.loop.invariant.known c.in_ok-serve-in-Ok-Some.ensures.known;
  own = c.serve.ensures.own ∙ c.loop.invariant.own;
  sink = c.in_ok-serve-in-Ok-Some.ensures.sink_cause ∙ c.loop.invariant.sink;
  log = c.in_ok-serve-in-Ok-Some.ensures.log_cause ∙ c.loop.invariant.log;
  source = c.in-Ok-Some.ensures.reported ∙ c.loop.invariant.source;
  served = λ mode is zs h.
      let i = c.loop.invariant.served mode is zs h in
      stands_next g.D.Device.seen g.D.Device.moment g.D.Device.left_since mode _ _ _ zs _ _ _ _ _ _ _ _ _ _ _ _ i c.loop.invariant.own c.dialect_of-dialect.ensures (c.in-Ok-Some.ensures.bytes i.ys i.left_is) c.in-Ok-Some.field-0-is _ (c.loop.invariant.mode ∙ is) c.in_ok-serve-in-Ok-Some.ensures.ok c.serve.ensures.onward c.loop.invariant.known;
}

pub returns-clause-served : goal.returns-clause-served
returns-clause-served g c = λ zs h. ends_never _ _ _ _ _ _ _ _ _ _ ((c.loop.invariant.served _ c.new-queue.ensures.1 zs h).service)

use Rattle.std.proofs.Common.{◌∙◌, true, refl, sym, subst, arith, Ok}
use Rattle.ep_node.specs.Nodes.{Logged}
use Rattle.ep_replica.specs.Pending.{IsHeldUp, TriesNext}
use Rattle.ep_serve.proofs.OwnSteps.{none_next, so_few, so_next}
use Rattle.ep_serve.proofs.advancing.advance_own.Goals as goal

pub returns-in-Err-clause-err : goal.returns-in-Err-clause-err
returns-in-Err-clause-err g c = subst (λ (n : Logged g.row.D.Denot). IsHeldUp n.replica c.in-Err.fault) (sym c.in-Err.ensures.err.1) c.in-Err.ensures.err.0

pub returns-then-not-executed-clause-ok : goal.returns-then-not-executed-clause-ok
returns-then-not-executed-clause-ok g c = none_next c.loop-times.node.replica c.execute_own.new.node.replica c.in-Ok.executed c.if-not-executed.true c.in-Ok.ensures.ok

pub loop-times-preserved : goal.loop-times-preserved
loop-times-preserved g c = record {
  same = c.execute_own.ensures.same ∙ (λ t. record (c.loop-times.invariant.same t) { replica = c.execute_own.new.node.replica });
  so = so_next _ _ c.loop-times.node.replica c.execute_own.new.node.replica true refl c.loop-times.invariant.so (subst (λ b. TriesNext c.loop-times.node.replica (Ok b) c.execute_own.new.node.replica) c.if-not-executed.false c.in-Ok.ensures.ok);
}

pub unreachable-requires : goal.unreachable-requires
unreachable-requires g c =
    let past = c.loop-times-test.false in
    so_few c.loop-times._times c.taken-entries.result _ c.loop-times.node.replica (omega arith) c.loop-times.invariant.so c.taken-entries.ensures (omega arith)

use Rattle.std.proofs.Common.{refl, subst, ◌∙◌}
use Rattle.ep_serve.specs.Answering.{AnswersOne}
use Rattle.ep_serve.proofs.Runs.{report_none, report_next}
use Rattle.ep_serve.proofs.answering.put_dues.Goals as goal

pub loop-due-init : goal.loop-due-init
loop-due-init g c = record { reported = report_none c.args.node.now.replica (g.K.Sink.held c.args.sink.now); same = refl }

pub loop-due-preserved : goal.loop-due-preserved
loop-due-preserved g c = record {
  reported = report_next c.args.node.now.replica c.loop-due.due-index c.args.dues.now c.due-item.result (g.K.Sink.held c.args.sink.now) (g.K.Sink.held c.loop-due.sink) (g.K.Sink.held c.put_due.new.sink)
      c.loop-due-test.true c.due-item.is c.loop-due.invariant.reported (subst (λ n. AnswersOne n.replica c.due-item.result (g.K.Sink.held c.loop-due.sink) (g.K.Sink.held c.put_due.new.sink)) c.loop-due.invariant.same c.in_ok-put_due.ensures.reported);
  same = c.put_due.ensures.same ∙ c.loop-due.invariant.same;
}

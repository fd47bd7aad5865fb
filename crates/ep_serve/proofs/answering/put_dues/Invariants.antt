use Rattle.std.proofs.Common.{◌≡◌, take}
use Rattle.ep_serve.specs.Answering.{AnswersEach}
use Rattle.ep_serve.proofs.answering.put_dues.Given as goal

abbrev pub invariant-loop-due : goal.invariant-loop-due
invariant-loop-due g l = record {
  reported : AnswersEach l.initial.node.replica (take l.due-index l.dues) (g.K.Sink.held l.initial.sink) (g.K.Sink.held l.sink);
  same : l.node ≡ l.initial.node;
}

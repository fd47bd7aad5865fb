use Rattle.std.proofs.Common.{◌≡◌}
use Rattle.ep_serve.proofs.Sweeping.{AllWait, ExecutesSome}
use Rattle.ep_serve.proofs.executing.execute_every.Given as goal

abbrev pub invariant-loop-index : goal.invariant-loop-index
invariant-loop-index g l = record {
  same : l.node ≡ record l.initial.node { replica = l.node.replica };
  some : ExecutesSome l.initial.node.replica l.node.replica;
  wait : AllWait l.index l.node.replica;
}

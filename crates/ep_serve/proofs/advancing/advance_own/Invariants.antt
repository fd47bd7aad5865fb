use Rattle.std.proofs.Common.{◌≡◌}
use Rattle.ep_serve.specs.Acting.{ExecutesSo}
use Rattle.ep_serve.proofs.advancing.advance_own.Given as goal

abbrev pub invariant-loop-times : goal.invariant-loop-times
invariant-loop-times g l = record {
  same : l.node ≡ record l.initial.node { replica = l.node.replica };
  so : ExecutesSo l._times l.initial.node.replica l.node.replica;
}

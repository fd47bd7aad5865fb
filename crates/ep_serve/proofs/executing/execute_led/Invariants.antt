use Rattle.std.proofs.Common.{◌≡◌}
use Rattle.ep_serve.proofs.Sweeping.{ExecutesSome, LedWait}
use Rattle.ep_serve.proofs.executing.execute_led.Given as goal

abbrev pub invariant-loop-number : goal.invariant-loop-number
invariant-loop-number g l = record {
  same : l.node ≡ record l.initial.node { replica = l.node.replica };
  some : ExecutesSome l.initial.node.replica l.node.replica;
  wait : LedWait l.leader l.number l.node.replica;
}

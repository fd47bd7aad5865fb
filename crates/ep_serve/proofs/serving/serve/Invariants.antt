use Rattle.std.proofs.Common.{◌≡◌, ◌≤◌, List, ℕ, Some, false, length}
use Rattle.ep_serve.specs.Lasting.{StaysKnown}
use Rattle.ep_serve.specs.declared.mode.Mode.{Mode}
use Rattle.ep_serve.proofs.States.{Stands}
use Rattle.ep_serve.proofs.serving.serve.Given as goal

abbrev pub invariant-loop : goal.invariant-loop
invariant-loop g l = record {
  mode : l.queue.mode ≡ l.initial.queue.mode;
  works : l.node.closed ≡ false;
  within : l.node.synced ≤ length l.node.replica.entries;
  known : StaysKnown g.D.Device.seen l.initial.node.device l.node.device;
  own : l.node.digest ≡ l.initial.node.digest;
  sink : g.K.Sink.has_failed l.sink ≡ g.K.Sink.has_failed l.initial.sink;
  log : g.D.Device.has_failed l.node.device ≡ g.D.Device.has_failed l.initial.node.device;
  source : g.S.Source.has_failed l.source ≡ g.S.Source.has_failed l.initial.source;
  served : (mode : Mode) → l.initial.queue.mode ≡ mode → (zs : List ℕ) → g.S.Source.left l.initial.source ≡ Some zs → Stands g.D.Device.seen g.D.Device.moment g.D.Device.left_since mode l.initial.node l.node zs (g.K.Sink.held l.initial.sink) (g.K.Sink.held l.sink) l.place (g.S.Source.left l.source) l.queue.dues.items;
}

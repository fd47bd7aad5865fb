use Rattle.std.proofs.Common.{◌≡◌, length, take}
use Rattle.ep_run.specs.Rings.{Collects, given_after}
use Rattle.ep_run.proofs.ring_run.RingRun.collect_all.Given as goal

abbrev pub invariant-loop-place : goal.invariant-loop-place
invariant-loop-place l = record {
  nodes : l.self.nodes ≡ l.fn.self.nodes;
  collected : l.self.collected ≡ l.fn.self.collected;
  receipts : Collects (given_after (take l.place l.fn.self.collected.items) l.fn.self.nodes.items) l.fn.self.nodes.items l.fn.self.clients l.fn.self.receipts.items l.self.clients l.self.receipts.items;
  end : l.place-end ≡ length l.fn.self.nodes.items;
}

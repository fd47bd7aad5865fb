use Rattle.std.proofs.Common.{[], take}
use Rattle.ep_run.specs.Rings.{Begun, HasRun}
use Rattle.ep_run.specs.Sections.{AreSections}
use Rattle.ep_run.proofs.ring_run.RingRun.run_all.Given as goal

abbrev pub invariant-loop-section : goal.invariant-loop-section
invariant-loop-section g l = record {
  run : (b : Begun) → HasRun b l.turns [] l.fn.self → HasRun b l.turns (take l.section-index l.section-items) l.self;
  sections : (b : Begun) → HasRun b l.turns [] l.fn.self → AreSections l.turns (take l.section-index l.section-items) [] l.fn.self.receipts.items l.self.receipts.items l.fn.self.nodes.items l.self.nodes.items;
}

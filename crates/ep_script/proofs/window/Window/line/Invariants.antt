use Rattle.std.proofs.Common.{◌≡◌, ℕ, List, length, ◌+◌, ◌-◌}
use Rattle.ep_script.specs.RawLines.{longest}
use Rattle.ep_script.specs.Window.{HasLeft}
use Rattle.ep_script.specs.SoFar.{SoFar}
use Rattle.ep_script.proofs.window.Window.line.Given as goal

abbrev pub invariant-loop-self : goal.invariant-loop-self
invariant-loop-self g l = record {
  bytes : (zs : List ℕ) → HasLeft l.initial.self (g.S.Source.left l.initial.source) zs → SoFar zs l.line.items l.self (g.S.Source.left l.source);
  failed : g.S.Source.has_failed l.source ≡ g.S.Source.has_failed l.initial.source;
}

abbrev pub decreases-loop-self : goal.decreases-loop-self
decreases-loop-self g l = longest + 1 - length l.line.items

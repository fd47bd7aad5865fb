use Rattle.std.proofs.Common.{◌≡◌, ℕ, ◌-◌, ◌≤◌, List, length, take}
use Rattle.ep_bundle.specs.Filling.{Begun}
use Rattle.ep_bundle.proofs.fields.fill_from.Given as goal

abbrev pub invariant-loop-at : goal.invariant-loop-at
invariant-loop-at g l = record {
  long : length l.buf ≡ length l.initial.buf;
  within : l.at ≤ length l.buf;
  bytes : (zs : List ℕ) → Begun zs (take l.initial.from l.initial.buf) (g.S.Source.left l.initial.source) → Begun zs (take l.at l.buf) (g.S.Source.left l.source);
  reported : g.S.Source.has_failed l.source ≡ g.S.Source.has_failed l.initial.source;
}

abbrev pub decreases-loop-at : goal.decreases-loop-at
decreases-loop-at g l = length l.initial.buf - l.at

use Rattle.std.proofs.Common.{◌≡◌}
use Rattle.std.specs.Io.KnownBytes.{Keeps}
use Rattle.ep_explain.specs.Kept.{known_left}
use Rattle.ep_explain.proofs.kept.Kept.look_ahead.Given as goal

abbrev pub invariant-loop : goal.invariant-loop
invariant-loop g l = record {
  kept : Keeps (known_left g.S.Source.left l.fn.self) (known_left g.S.Source.left l.self);
  reported : g.S.Source.has_failed l.self.source ≡ g.S.Source.has_failed l.fn.self.source;
}

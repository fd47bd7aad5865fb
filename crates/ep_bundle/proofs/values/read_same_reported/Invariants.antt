use Rattle.std.proofs.Common.{◌≡◌}
use Rattle.ep_bundle.specs.Stages.{one_reported}
use Rattle.ep_bundle.proofs.Compared.{Comparing}
use Rattle.ep_bundle.proofs.values.read_same_reported.Given as goal

abbrev pub invariant-loop-index : goal.invariant-loop-index
invariant-loop-index g l = record {
  bytes : Comparing (one_reported l.version) l.count l.index l.fn.values l.same l.initial.place l.place (g.S.Source.left l.initial.source) (g.S.Source.left l.source);
  reported : g.S.Source.has_failed l.source ≡ g.S.Source.has_failed l.initial.source;
}

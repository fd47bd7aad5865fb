use Rattle.std.proofs.Common.{◌≡◌, length}
use Rattle.ep_bundle.specs.Stages.{one_reported}
use Rattle.ep_bundle.proofs.Loops.{Going}
use Rattle.ep_bundle.proofs.values.read_each_reported.Given as goal

abbrev pub invariant-loop : goal.invariant-loop
invariant-loop g l = record {
  bytes : Going (one_reported l.version) l.count l.counter l.values.items l.initial.place l.place (g.S.Source.left l.initial.source) (g.S.Source.left l.source);
  long : length l.values.items ≡ l.counter;
  reported : g.S.Source.has_failed l.source ≡ g.S.Source.has_failed l.initial.source;
}

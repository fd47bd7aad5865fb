use Rattle.std.proofs.Common.{◌≡◌, length}
use Rattle.std.specs.FinMap.{entries}
use Rattle.ep_bundle.proofs.PairLoops.{Filling}
use Rattle.ep_bundle.proofs.pairs.read_contents.Given as goal

abbrev pub invariant-loop : goal.invariant-loop
invariant-loop g l = record {
  bytes : Filling l.fn.count l.counter (entries l.map) l.initial.place l.place (g.S.Source.left l.initial.source) (g.S.Source.left l.source);
  many : length (entries l.map) ≡ l.counter;
  reported : g.S.Source.has_failed l.source ≡ g.S.Source.has_failed l.initial.source;
}

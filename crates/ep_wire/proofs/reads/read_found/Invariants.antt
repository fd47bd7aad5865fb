use Rattle.std.proofs.Common.{◌≡◌}
use Rattle.ep_base.specs.Quorums.{size}
use Rattle.ep_bundle.specs.Stages.{instance}
use Rattle.ep_bundle.proofs.Loops.{Going}
use Rattle.ep_wire.proofs.reads.read_found.Given as goal

abbrev pub invariant-loop : goal.invariant-loop
invariant-loop g l = record {
  bytes : Going (instance l.fn.dialect.version (size l.fn.dialect.size)) l.count l.counter l.items.items l.initial.place l.place (g.S.Source.left l.initial.source) (g.S.Source.left l.source);
  reported : g.S.Source.has_failed l.source ≡ g.S.Source.has_failed l.initial.source;
}

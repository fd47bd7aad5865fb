use Rattle.std.proofs.Common.{◌≡◌, ◌++◌, drop, filter}
use Rattle.std.specs.Prelude.{not}
use Rattle.ep_view.specs.Graphs.{is_implied}
use Rattle.ep_view.proofs.edges.not_implied.Given as goal

abbrev pub invariant-loop-instance : goal.invariant-loop-instance
invariant-loop-instance l = l.drawn.items ++ filter (λ j. not (is_implied l.journals l.near l.seq j)) (drop l.instance-index l.decree.attrs.deps) ≡ filter (λ j. not (is_implied l.journals l.near l.seq j)) l.decree.attrs.deps

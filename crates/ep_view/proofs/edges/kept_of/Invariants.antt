use Rattle.std.proofs.Common.{◌≡◌, ◌++◌, drop, filter}
use Rattle.ep_view.specs.Kept.{is_one_of}
use Rattle.ep_view.proofs.edges.kept_of.Given as goal

abbrev pub invariant-loop-instance : goal.invariant-loop-instance
invariant-loop-instance l = l.found.items ++ filter (is_one_of l.kept) (drop l.instance-index l.instances) ≡ filter (is_one_of l.kept) l.instances

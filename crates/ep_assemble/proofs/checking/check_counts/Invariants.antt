use Rattle.std.proofs.Common.{◌≡◌, ◌<◌, ℕ}
use Rattle.ep_assemble.specs.Clusters.{count_of}
use Rattle.ep_assemble.proofs.checking.check_counts.Given as goal

abbrev pub invariant-loop-index : goal.invariant-loop-index
invariant-loop-index l = (k : ℕ) → k < l.index → count_of k l.journals ≡ 1

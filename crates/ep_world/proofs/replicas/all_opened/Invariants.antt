use Rattle.std.proofs.Common.{◌≡◌, ℕ, List, [], ◌++◌, slice_index_or}
use Rattle.ep_journal.specs.Entries.{all_entries}
use Rattle.ep_replica.specs.Kept.{Kept}
use Rattle.ep_world.specs.Replicas.{AreReplicas}
use Rattle.ep_world.proofs.replicas.all_opened.Given as goal

abbrev pub invariant-loop-number : goal.invariant-loop-number
invariant-loop-number l = record {
  replicas : (rest : List Kept) → AreReplicas l.beginning.version l.beginning.opening l.cluster l.number rest → AreReplicas l.beginning.version l.beginning.opening l.cluster 0 (l.replicas.items ++ rest);
  entries : (r : ℕ) → slice_index_or (all_entries l.replicas.items) r [] ≡ [];
}

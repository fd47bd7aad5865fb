use Rattle.std.proofs.Common.{◌≡◌, ℕ, List, true, length}
use Rattle.ep_exec.specs.Held.{held}
use Rattle.ep_exec.specs.Many.{put_all, AreRoomy}
use Rattle.ep_exec.specs.Table.{has_place}
use Rattle.ep_rules.specs.OneMap.{Contents, with_writes}
use Rattle.ep_exec.proofs.many.writes_of.Given as goal

abbrev pub invariant-loop-item : goal.invariant-loop-item
invariant-loop-item l = record {
  contents : held l.table ≡ held l.fn.table;
  writes : (m : Contents) → with_writes (put_all l.writes.items m) l.items ≡ with_writes m l.fn.items;
  roomy : AreRoomy l.table.changes.entries l.writes.items;
  kept : (q : List ℕ) → has_place l.fn.table.changes.entries q ≡ true → has_place l.table.changes.entries q ≡ true;
}

abbrev pub decreases-loop-item : goal.decreases-loop-item
decreases-loop-item l = length l.items

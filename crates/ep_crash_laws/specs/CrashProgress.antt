-- What f+1 replicas can do alone where replicas have crashed and come back.
use Rattle.std.specs.Prelude.{◌≡◌, ℕ, ◌+◌, ◌<◌, ◌≤◌, Bool, true, List, []}
use Rattle.ep_base.specs.Instances.{leader_of}
use Rattle.ep_base.specs.Quorums.{size}
use Rattle.ep_node.specs.Crashes.{Start, Cluster, fresh_cluster, Move, AreMoves, cluster_after}
use Rattle.ep_laws.specs.Alone.{HasRoom, Ending}
use Rattle.ep_rules.specs.Counting.{count}
use Rattle.ep_rules.specs.Journals.{left}
use Rattle.ep_rules.specs.OneMap.{opened}
use Rattle.ep_rules.specs.States.{fresh_state}
use Rattle.ep_rules.specs.Worlds.{World}

-- each node has the state that its entries leave, and whatever was on its way is lost
abbrev pub world_of : Start → ℕ → Cluster → World
world_of start f c = record { states = λ r. left f r (fresh_state (opened start.map)) (c.journal r); sent = [] }

-- Whatever crashed, any f+1 nodes can end any instance alone.
abbrev pub CrashesKeepProgress : Type 0
CrashesKeepProgress =
    (start : Start) (f : ℕ) → 0 < f → size f ≤ 256 → (moves : List Move) → AreMoves start f fresh_cluster moves →
    (live : ℕ → Bool) → f + 1 ≤ count (size f) live → (q : ℕ) → q < size f → live q ≡ true → (i : ℕ) → leader_of i < size f →
    let w = world_of start f (cluster_after fresh_cluster moves) in
    HasRoom f live w i → Ending f live q i w

-- tools/generate writes this file, from crates/ep_crash_laws/specs/CrashReads.antt.
-- Reads that write nothing, of nodes that crash and come back. Points are those of the moves: how many of them are done.
use Rattle.std.specs.Prelude.{◌≡◌, ℕ, ◌<◌, ◌≤◌, List, [], length, take, drop, Some, is_some}
use Rattle.ep_base.specs.Places.{Has}
use Rattle.ep_base.specs.Quorums.{size}
use Rattle.ep_rules.specs.Counting.{count}
use Rattle.ep_laws.specs.Rows.Journals.{left, Scheduled, acts_of}
use Rattle.ep_laws.specs.Rows.OneMap.{opened, reply, after_commands}
use Rattle.ep_laws.specs.Rows.Operations.{Operation, commands_of, history_of}
use Rattle.ep_laws.specs.Rows.States.{State, fresh_state}
use Rattle.ep_laws.specs.Rows.Reads.{ReadsOneKey, found, Read}
use Rattle.ep_laws.specs.Rows.Crashes.{Start, Cluster, fresh_cluster, Move, Take, HandOut, ComeBack, AreMoves, cluster_after, without, is_beyond, stand_after, standing}

-- the cluster at a point, and there a node's state
abbrev pub cluster_at : List Move → ℕ → Cluster
cluster_at moves n = cluster_after fresh_cluster (take n moves)

abbrev pub state_at : Start → ℕ → List Move → ℕ → ℕ → State
state_at start f moves n q = left f q (fresh_state (opened start.map)) ((cluster_at moves n).journal q)

-- the node has been handed out of all its entries, so that they are on its disk
abbrev pub IsOnDisk : List Move → ℕ → ℕ → Type 0
IsOnDisk moves n q = (cluster_at moves n).out q ≡ length ((cluster_at moves n).journal q)

-- what a move leaves of entries that were taken before it
abbrev pub survive : Move → List Scheduled → List Scheduled
survive (Take r e) these = these
survive (HandOut r n) these = these
survive (ComeBack r n) these = without (is_beyond r n) these

-- what was done up to a point and stands in the end, of what each move leaves, and of what it leaves of what was done before it
abbrev pub stood : {M X : Type 0} → (M → List X → List X) → (M → List X → List X) → List M → ℕ → List X
stood stand outlast moves n = standing outlast (standing stand [] (take n moves)) (drop n moves)

abbrev pub history_to : Start → ℕ → List Move → ℕ → List Operation
history_to start f moves n = history_of (opened start.map) f (acts_of (stood stand_after survive moves n))

-- What a read of one key has to keep to: as in a run, and all that the reader has is on its disk when it answers. What is looked at needn't be on any disk.
pub record IsCrashRead (start : Start) (f : ℕ) (moves : List Move) (r : Read) : Type 0 where
  pub reads : ReadsOneKey r.command
  pub in_order : r.asked ≤ r.answered
  pub many : f < count (size f) (λ q. is_some (r.looked q))
  pub later : (q n : ℕ) → r.looked q ≡ Some n → r.asked ≤ n
  pub reader : IsOnDisk moves r.answered r.reader
  pub executed :
      (q n i : ℕ) → r.looked q ≡ Some n → Has (found (state_at start f moves n q) r.command) i →
      Has (state_at start f moves r.answered r.reader).executed i

-- Whatever crashed, every read of one key takes effect between its question and its answer, in the history of what stands: a crash takes nothing that it was answered.
abbrev pub CrashReadsAreLinearizable : Type 0
CrashReadsAreLinearizable =
    (start : Start) (f : ℕ) → 0 < f → size f ≤ 256 → (moves : List Move) → AreMoves start f fresh_cluster moves → (r : Read) → IsCrashRead start f moves r →
    (p : ℕ) × (length (history_to start f moves r.asked) ≤ p) × (p ≤ length (history_to start f moves r.answered))
    × (reply (state_at start f moves r.answered r.reader).store r.command
    ≡ reply (after_commands (opened start.map) (commands_of (take p (history_of (opened start.map) f (acts_of (standing stand_after [] moves)))))) r.command)

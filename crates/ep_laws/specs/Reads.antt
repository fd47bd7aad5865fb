-- Reads that write nothing: F + 1 replicas are looked at, and one replica answers by its own map once it has executed all that was found.
--
-- A point of a run is how many of its acts are done. A read is no act: no replica changes, and nothing is sent or recorded.
use Rattle.std.specs.Prelude.{◌≡◌, ℕ, ◌<◌, ◌≤◌, true, List, [], ◌∷◌, length, take, Option, Some, is_some}
use Rattle.ep_base.specs.Interference.{only_reads, keys_of}
use Rattle.ep_base.specs.Places.{Has}
use Rattle.ep_base.specs.Quorums.{size}
use Rattle.ep_base.specs.Commands.{Command}
use Rattle.ep_base.specs.declared.reply.Reply.{Reply}
use Rattle.ep_rules.specs.Closing.{store_of}
use Rattle.ep_rules.specs.Counting.{count}
use Rattle.ep_rules.specs.InterferenceSet.{interference}
use Rattle.ep_rules.specs.OneMap.{Store, reply, after_commands}
use Rattle.ep_rules.specs.Operations.{Operation, commands_of, history_of}
use Rattle.ep_rules.specs.States.{State}
use Rattle.ep_rules.specs.Worlds.{World, opening, Act, IsRun, ends}

-- the command only reads, and names one key
pub record ReadsOneKey (c : Command) : Type 0 where
  pub only : only_reads c ≡ true
  pub one : (k : List ℕ) × (keys_of c ≡ k ∷ [])

-- what a look at a replica's state finds for a command: the instances of all records whose commands interfere with it (no instance is 0)
abbrev pub found : State → Command → List ℕ
found s c = (interference s.records 0 c).deps

-- the world at a point of a run, and the history of the run up to there
abbrev pub world_at : (base : Store) → ℕ → List Act → ℕ → World
world_at base f acts n = ends f (opening base) (take n acts)

abbrev pub history_at : (base : Store) → ℕ → List Act → ℕ → List Operation
history_at base f acts n = history_of base f (take n acts)

-- a command, the replica that answers it, the points at which it is asked and answered, and the one at which each replica is looked at, if it is
pub record Read : Type 0 where
  pub command : Command
  pub reader : ℕ
  pub asked : ℕ
  pub looked : ℕ → Option ℕ
  pub answered : ℕ

-- what a read of one key has to keep to
pub record IsRead (base : Store) (f : ℕ) (acts : List Act) (r : Read) : Type 0 where
  pub reads : ReadsOneKey r.command
  -- more than F replicas are looked at (the reader may be one of them), each between the question and the answer
  pub many : f < count (size f) (λ q. is_some (r.looked q))
  pub between : (q n : ℕ) → r.looked q ≡ Some n → (r.asked ≤ n) × (n ≤ r.answered)
  -- all that the looks found is executed at the reader when it answers
  pub executed :
      (q n i : ℕ) → r.looked q ≡ Some n → Has (found ((world_at base f acts n).states q) r.command) i →
      Has ((world_at base f acts r.answered).states r.reader).executed i

-- the reply of the reader's map
abbrev pub reply_of : (base : Store) → ℕ → List Act → Read → Reply
reply_of base f acts r = reply (store_of (world_at base f acts r.answered) r.reader) r.command

-- the moment behind the first p operations of the run's history is between the question and the answer
pub record IsBetween (base : Store) (f : ℕ) (acts : List Act) (r : Read) (p : ℕ) : Type 0 where
  pub asked : length (history_at base f acts r.asked) ≤ p
  pub answered : p ≤ length (history_at base f acts r.answered)

-- Every read of one key takes effect at one moment between its question and its answer: its reply is one map's reply then.
abbrev pub ReadsAreLinearizable : Type 0
ReadsAreLinearizable = (base : Store) (f : ℕ) → 0 < f → size f ≤ 256 → (acts : List Act) → IsRun f (opening base) acts → (r : Read) → IsRead base f acts r →
    (p : ℕ) × IsBetween base f acts r p × (reply_of base f acts r ≡ reply (after_commands base (commands_of (take p (history_of base f acts)))) r.command)

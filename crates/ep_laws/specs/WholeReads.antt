-- Reads of any keys: the reader takes its reply first, and answers with it if all that is found after that was executed already. Else it begins anew.
use Rattle.std.specs.Prelude.{◌≡◌, ℕ, ◌<◌, ◌≤◌, true, List, Some, is_some}
use Rattle.ep_base.specs.Interference.{only_reads}
use Rattle.ep_base.specs.Places.{Has}
use Rattle.ep_base.specs.Quorums.{size}
use Rattle.ep_rules.specs.Closing.{store_of}
use Rattle.ep_rules.specs.Counting.{count}
use Rattle.ep_rules.specs.Machines.{Machine, after_operations, executed_at}
use Rattle.ep_rules.specs.OneMap.{Store, reply, after_commands}
use Rattle.ep_rules.specs.Operations.{Operation, instances_of, commands_of}
use Rattle.ep_rules.specs.Worlds.{opening, Act, IsRun}
use Rattle.ep_laws.specs.Reads.{found, world_at, history_at, Read}

-- what a read of any keys has to keep to, where `asked` is the point at which the reader takes its reply
pub record IsWholeRead (base : Store) (f : ℕ) (acts : List Act) (r : Read) : Type 0 where
  pub only : only_reads r.command ≡ true
  -- more than F replicas are looked at, each after that, and before the answer
  pub many : f < count (size f) (λ q. is_some (r.looked q))
  pub between : (q n : ℕ) → r.looked q ≡ Some n → (r.asked ≤ n) × (n ≤ r.answered)
  -- all that the looks found was executed at the reader when it took its reply
  pub executed :
      (q n i : ℕ) → r.looked q ≡ Some n → Has (found ((world_at base f acts n).states q) r.command) i →
      Has ((world_at base f acts r.asked).states r.reader).executed i

-- Such a read takes effect where its reply is taken: the reply is one map's reply after all of the run's history up to there.
abbrev pub WholeReadsAreLinearizable : Type 0
WholeReadsAreLinearizable = (base : Store) (f : ℕ) → 0 < f → size f ≤ 256 → (acts : List Act) → IsRun f (opening base) acts → (r : Read) → IsWholeRead base f acts r →
    reply (store_of (world_at base f acts r.asked) r.reader) r.command ≡ reply (after_commands base (commands_of (history_at base f acts r.asked))) r.command

-- And so is that of a machine outside one machine's. The read's instance is any that isn't in the history.
abbrev pub MachineWholeReadsAreLinearizable : (S R : Type 0) → Type 0
MachineWholeReadsAreLinearizable S R =
    (M : Machine S R) (start : S) (base : Store) (f : ℕ) → 0 < f → size f ≤ 256 → (acts : List Act) → IsRun f (opening base) acts →
    (r : Read) → IsWholeRead base f acts r → (i : ℕ) → ¬ Has (instances_of (history_at base f acts r.asked)) i →
    let o : Operation = record { instance = i; command = r.command } in
    M.reply (after_operations M start (executed_at (world_at base f acts r.asked) r.reader)) o ≡ M.reply (after_operations M start (history_at base f acts r.asked)) o

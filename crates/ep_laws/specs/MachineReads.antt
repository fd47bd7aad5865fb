-- Reads of machines outside, which are handed what their replicas execute.
use Rattle.std.specs.Prelude.{◌≡◌, ℕ, ◌<◌, ◌≤◌, List, take}
use Rattle.ep_base.specs.Places.{Has}
use Rattle.ep_base.specs.Quorums.{size}
use Rattle.ep_rules.specs.Machines.{Machine, after_operations, executed_at}
use Rattle.ep_rules.specs.OneMap.{Store}
use Rattle.ep_rules.specs.Operations.{Operation, instances_of, history_of}
use Rattle.ep_rules.specs.Worlds.{opening, Act, IsRun}
use Rattle.ep_laws.specs.Reads.{world_at, Read, IsRead, IsBetween}

-- Every read of one key is answered by its reader's machine what one machine reports at one moment between its question and its answer.
-- Its instance is any that isn't in the history.
abbrev pub MachineReadsAreLinearizable : (S R : Type 0) → Type 0
MachineReadsAreLinearizable S R =
    (M : Machine S R) (start : S) (base : Store) (f : ℕ) → 0 < f → size f ≤ 256 → (acts : List Act) → IsRun f (opening base) acts →
    (r : Read) → IsRead base f acts r →
    (i : ℕ) → ¬ Has (instances_of (history_of base f acts)) i →
    let o : Operation = record { instance = i; command = r.command } in
    (p : ℕ) × IsBetween base f acts r p
    × (M.reply (after_operations M start (executed_at (world_at base f acts r.answered) r.reader)) o
    ≡ M.reply (after_operations M start (take p (history_of base f acts))) o)

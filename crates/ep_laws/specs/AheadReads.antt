-- Reads whose looks may be ahead of the run: at states that replicas reached by steps which the run hasn't, as a crash took them.
use Rattle.std.specs.Prelude.{◌≡◌, ℕ, ◌<◌, ◌≤◌, true, List, take, Option, Some, is_some}
use Rattle.ep_base.specs.Interference.{keys_of, only_reads}
use Rattle.ep_rules.specs.Closing.{store_of}
use Rattle.ep_base.specs.Places.{Has}
use Rattle.ep_base.specs.Quorums.{size}
use Rattle.ep_base.specs.Commands.{Command}
use Rattle.ep_rules.specs.Counting.{count}
use Rattle.ep_rules.specs.OneMap.{Store, reply, after_commands}
use Rattle.ep_rules.specs.Operations.{commands_of, history_of}
use Rattle.ep_rules.specs.States.{State}
use Rattle.ep_rules.specs.Worlds.{opening, Act, IsRun, ends}
use Rattle.ep_laws.specs.Reads.{ReadsOneKey, found, world_at, history_at, Read, reply_of, IsBetween}
use Rattle.ep_laws.specs.WithReads.{Item, IsHistoryWith}

-- some steps, from the world at a point of the run, lead the replica to the state
abbrev pub LeadsTo : (base : Store) → ℕ → List Act → ℕ → ℕ → State → Type 0
LeadsTo base f acts n q s = (late : List Act) × IsRun f (world_at base f acts n) late × ((ends f (world_at base f acts n) late).states q ≡ s)

-- what a read of one key has to keep to, where `seen` gives the state in which each replica is looked at, if it is
pub record IsAheadRead (base : Store) (f : ℕ) (acts : List Act) (r : Read) (seen : ℕ → Option State) : Type 0 where
  pub reads : ReadsOneKey r.command
  pub in_order : r.asked ≤ r.answered
  -- more than F replicas are looked at, each in a state that goes on from what it had done in the run when the read was asked
  pub many : f < count (size f) (λ q. is_some (seen q))
  pub goes_on : (q : ℕ) (s : State) → seen q ≡ Some s → LeadsTo base f acts r.asked q s
  -- all that the looks found is executed in the run at the reader when it answers
  pub executed : (q i : ℕ) (s : State) → seen q ≡ Some s → Has (found s r.command) i → Has ((world_at base f acts r.answered).states r.reader).executed i

-- Such a read takes effect at one moment between its question and its answer too: a look may be at what a crash takes, and what else it finds does no harm.
abbrev pub AheadReadsAreLinearizable : Type 0
AheadReadsAreLinearizable =
    (base : Store) (f : ℕ) → 0 < f → size f ≤ 256 → (acts : List Act) → IsRun f (opening base) acts → (r : Read) (seen : ℕ → Option State) → IsAheadRead base f acts r seen →
    (p : ℕ) × IsBetween base f acts r p × (reply_of base f acts r ≡ reply (after_commands base (commands_of (take p (history_of base f acts)))) r.command)

-- And every run's history takes them.
abbrev pub HistoriesTakeAheadReads : Type 0
HistoriesTakeAheadReads =
    (base : Store) (f : ℕ) → 0 < f → size f ≤ 256 → (acts : List Act) → IsRun f (opening base) acts → (reads : ℕ → Read) (seen : ℕ → ℕ → Option State) (n : ℕ) →
    ((k : ℕ) → k < n → IsAheadRead base f acts (reads k) (seen k)) → (s : List Item) × IsHistoryWith base f acts reads n s

-- What a read of any keys has to keep to, where `asked` is the point at which the reader takes its reply: the looks come after that, and all that they find was
-- executed then.
pub record IsAheadWholeRead (base : Store) (f : ℕ) (acts : List Act) (r : Read) (seen : ℕ → Option State) : Type 0 where
  pub only : only_reads r.command ≡ true
  pub many : f < count (size f) (λ k. is_some (seen k))
  pub goes_on : (k : ℕ) (s : State) → seen k ≡ Some s → LeadsTo base f acts r.asked k s
  pub executed : (k i : ℕ) (s : State) → seen k ≡ Some s → Has (found s r.command) i → Has ((world_at base f acts r.asked).states r.reader).executed i

-- Such a read takes effect where its reply is taken.
abbrev pub AheadWholeReadsAreLinearizable : Type 0
AheadWholeReadsAreLinearizable =
    (base : Store) (f : ℕ) → 0 < f → size f ≤ 256 → (acts : List Act) → IsRun f (opening base) acts → (r : Read) (seen : ℕ → Option State) → IsAheadWholeRead base f acts r seen →
    reply (store_of (world_at base f acts r.asked) r.reader) r.command ≡ reply (after_commands base (commands_of (history_at base f acts r.asked))) r.command

-- What a look finds for a command that only reads rests on its keys alone, so one answer serves all reads of the same keys.
abbrev pub LooksGoByKey : Type 0
LooksGoByKey = (s : State) (c d : Command) → only_reads c ≡ true → only_reads d ≡ true → keys_of c ≡ keys_of d → found s c ≡ found s d

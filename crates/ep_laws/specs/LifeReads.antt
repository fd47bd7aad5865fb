-- Reads that write nothing in the life of a cluster: each in one generation. Points are those of the life: how many of its turns are done.
use Rattle.std.specs.Prelude.{◌≡◌, ◌⊎◌, ℕ, suc, ◌<◌, ◌≤◌, Bool, true, false, List, ◌++◌, length, take, Some, is_some}
use Rattle.ep_base.specs.Commands.{Command}
use Rattle.ep_base.specs.Places.{Has}
use Rattle.ep_base.specs.Quorums.{size}
use Rattle.ep_base.specs.declared.reply.Reply.{Reply}
use Rattle.ep_base.specs.declared.reply.Reply.TheVariants.{Closed}
use Rattle.ep_rules.specs.Closing.{has_seal, written_by}
use Rattle.ep_rules.specs.Counting.{count}
use Rattle.ep_rules.specs.Generations.{Turn, Life, birth, IsLife, lived, acts_in, opening_map, history_in, operations, joined}
use Rattle.ep_rules.specs.OneMap.{Contents, read, reply, opened}
use Rattle.ep_rules.specs.Operations.{Operation, history_of}
use Rattle.ep_rules.specs.States.{State}
use Rattle.ep_laws.specs.Reads.{ReadsOneKey, found, Read}

-- the life up to a point, and there a replica's state in a generation
abbrev pub life_at : Contents → (ℕ → ℕ) → List Turn → ℕ → Life
life_at start f turns n = lived f (birth start) (take n turns)

abbrev pub state_at : Contents → (ℕ → ℕ) → List Turn → ℕ → ℕ → ℕ → State
state_at start f turns g n q = ((life_at start f turns n).worlds g).states q

-- what a read of one key in generation g has to keep to: as in a run, and whoever is looked at, or answers, has opened the generation
pub record IsLifeRead (start : Contents) (f : ℕ → ℕ) (turns : List Turn) (g : ℕ) (r : Read) : Type 0 where
  pub reads : ReadsOneKey r.command
  pub many : f g < count (size (f g)) (λ q. is_some (r.looked q))
  pub between : (q n : ℕ) → r.looked q ≡ Some n → (r.asked ≤ n) × (n ≤ r.answered)
  pub here : (q n : ℕ) → r.looked q ≡ Some n → (life_at start f turns n).has_opened g q ≡ true
  pub reader : (life_at start f turns r.answered).has_opened g r.reader ≡ true
  pub executed :
      (q n i : ℕ) → r.looked q ≡ Some n → Has (found (state_at start f turns g n q) r.command) i →
      Has (state_at start f turns g r.answered r.reader).executed i

-- the reply of the reader's map in the generation
abbrev pub life_reply : Contents → (ℕ → ℕ) → List Turn → ℕ → Read → Reply
life_reply start f turns g r = reply (state_at start f turns g r.answered r.reader).store r.command

-- the generation's history up to a point of the life
abbrev pub history_to : Contents → (ℕ → ℕ) → List Turn → ℕ → ℕ → List Operation
history_to start f turns g n = history_of (opened (opening_map start f turns g)) (f g) (acts_in g (take n turns))

-- A reply to the command behind the first p operations of the generation: that the map is closed, as there is a seal among them; or, as there is none, what one map
-- replies, which no seal closes, after all generations before, each up to its first seal, and these p. Then nobody had opened the next generation, as far as `next` reports.
abbrev pub IsRightOrClosed : Contents → (ℕ → ℕ) → List Turn → ℕ → Command → Reply → (ℕ → Bool) → ℕ → Type 0
IsRightOrClosed start f turns g c y next p =
    let first = take p (history_in start f turns g) in
    ((has_seal first ≡ true) × (y ≡ Closed))
    ⊎ ((has_seal first ≡ false)
    × (y ≡ read (written_by start (operations (joined (history_in start f turns) g) ++ first)) c)
    × ((q : ℕ) → next q ≡ false))

-- Every read of one key in a generation takes effect between its question and its answer there, and is right or finds the map closed.
abbrev pub LifeReadsAreLinearizable : Type 0
LifeReadsAreLinearizable =
    (start : Contents) (f : ℕ → ℕ) → ((g : ℕ) → (0 < f g) × (size (f g) ≤ 256)) → (turns : List Turn) → IsLife f (birth start) turns →
    (g : ℕ) (r : Read) → IsLifeRead start f turns g r →
    (p : ℕ) × (length (history_to start f turns g r.asked) ≤ p) × (p ≤ length (history_to start f turns g r.answered))
    × IsRightOrClosed start f turns g r.command (life_reply start f turns g r) ((life_at start f turns r.asked).has_opened (suc g)) p

-- The history of a run with its reads: each stands at its place among the operations.
use Rattle.std.specs.Prelude.{◌≡◌, ◌↔◌, ℕ, suc, ◌<◌, ◌≤◌, eqb, cond, List, [], ◌∷◌, length, take, slice_index_or as get_or}
use Rattle.ep_base.specs.Commands.{Command}
use Rattle.ep_base.specs.Places.{place, Has}
use Rattle.ep_base.specs.Quorums.{size}
use Rattle.ep_base.specs.declared.reply.Reply.TheVariants.{Absent}
use Rattle.ep_rules.specs.Counts.{AreOnce}
use Rattle.ep_rules.specs.OneMap.{Store, replies}
use Rattle.ep_rules.specs.Operations.{Operation, instances_of, commands_of, history_of}
use Rattle.ep_rules.specs.Safety.{WasProposed}
use Rattle.ep_rules.specs.Steps.{order_of}
use Rattle.ep_rules.specs.Worlds.{opening, Act, In, IsRun}
use Rattle.ep_laws.specs.Reads.{Read, reply_of, IsRead}

-- an operation, or the read of a number
pub data Item : Type 0 where
  Done : (operation : Operation) → Item
  Asked : (read : ℕ) → Item

abbrev pub operations_in : List Item → List Operation
operations_in [] = []
operations_in (Done o ∷ s) = o ∷ operations_in s
operations_in (Asked k ∷ s) = operations_in s

abbrev pub reads_in : List Item → List ℕ
reads_in [] = []
reads_in (Done o ∷ s) = reads_in s
reads_in (Asked k ∷ s) = k ∷ reads_in s

-- what one map is asked in turn, where q gives the commands of the reads
abbrev pub commands_in : (ℕ → Command) → List Item → List Command
commands_in q [] = []
commands_in q (Done o ∷ s) = o.command ∷ commands_in q s
commands_in q (Asked k ∷ s) = q k ∷ commands_in q s

-- where the operation of an instance stands, and where a read does

abbrev pub place_done : List Item → ℕ → ℕ
place_done [] i = 0
place_done (Done o ∷ s) i = cond (eqb o.instance i) 0 (suc (place_done s i))
place_done (Asked k ∷ s) i = suc (place_done s i)

abbrev pub place_asked : List Item → ℕ → ℕ
place_asked [] k = 0
place_asked (Done o ∷ s) k = suc (place_asked s k)
place_asked (Asked j ∷ s) k = cond (eqb j k) 0 (suc (place_asked s k))

-- s has the history's operations, in its order, and the first n reads, with their replies, in the order of real time
pub record IsHistoryWith (base : Store) (f : ℕ) (acts : List Act) (reads : ℕ → Read) (n : ℕ) (s : List Item) : Type 0 where
  pub operations : operations_in s ≡ history_of base f acts
  -- it has each read once
  pub once : AreOnce (reads_in s)
  pub complete : (k : ℕ) → Has (reads_in s) k ↔ (k < n)
  -- legal: each read's reply is one map's reply at its place, and the replies to the operations are those of the history without reads
  pub legal : (k : ℕ) → k < n → reply_of base f acts (reads k) ≡ get_or (replies base (commands_in (λ j. (reads j).command) s)) (place_asked s k) Absent
  pub same :
      (i : ℕ) → Has (instances_of (history_of base f acts)) i →
      get_or (replies base (commands_in (λ j. (reads j).command) s)) (place_done s i) Absent
      ≡ get_or (replies base (commands_of (history_of base f acts))) (place (instances_of (history_of base f acts)) i) Absent
  -- real time: a read stands behind what some replica had executed when it was asked, and before what is proposed after its answer
  pub behind :
      (k i : ℕ) (a : Act) → k < n → Has (instances_of (history_of base f acts)) i → In a (take (reads k).asked acts) → Has (order_of a.done) i →
      place_done s i < place_asked s k
  pub before :
      (k i : ℕ) (c : Command) (t : WasProposed base f acts i c) → k < n → Has (instances_of (history_of base f acts)) i → (reads k).answered ≤ length t.before →
      place_asked s k < place_done s i
  -- and one that was answered before another was asked stands before it (reads are numbered in the order of their answers)
  pub in_turn : (j k : ℕ) → j < k → k < n → (reads j).answered ≤ (reads k).asked → place_asked s j < place_asked s k

-- With reads of one key put into their places, every run's history stays a linearization of it.
abbrev pub HistoriesTakeReads : Type 0
HistoriesTakeReads = (base : Store) (f : ℕ) → 0 < f → size f ≤ 256 → (acts : List Act) → IsRun f (opening base) acts → (reads : ℕ → Read) (n : ℕ) →
    ((k : ℕ) → k < n → IsRead base f acts (reads k)) → (s : List Item) × IsHistoryWith base f acts reads n s

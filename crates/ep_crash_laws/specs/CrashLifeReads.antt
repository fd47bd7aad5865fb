-- Reads that write nothing, of nodes that crash and come back, through generations and lost disks. Points are those of the moves: how many of them are done.
use Rattle.std.specs.Prelude.{◌≡◌, ℕ, suc, ◌<◌, ◌≤◌, true, List, [], length, take, Some, is_some}
use Rattle.ep_base.specs.Interference.{only_reads}
use Rattle.ep_base.specs.Places.{Has}
use Rattle.ep_base.specs.Quorums.{size}
use Rattle.ep_base.specs.declared.reply.Reply.{Reply}
use Rattle.ep_rules.specs.Counting.{count}
use Rattle.ep_rules.specs.Generations.{Turn, one_history, place_in, HasIn}
use Rattle.ep_rules.specs.Journals.{Entry, left}
use Rattle.ep_rules.specs.OneMap.{opened, reply}
use Rattle.ep_rules.specs.States.{State, fresh_state}
use Rattle.ep_rules.specs.Steps.{order_of}
use Rattle.ep_rules.specs.Worlds.{In}
use Rattle.ep_laws.specs.Reads.{ReadsOneKey, found, Read}
use Rattle.ep_laws.specs.LifeReads.{history_to, IsRightOrClosed}
use Rattle.ep_laws.specs.LifeOrder.{IsRight, life_place}
use Rattle.ep_node.specs.Crashes.{Start, Cluster, Take, HandOut, ComeBack, handed_out, without, standing}
use Rattle.ep_node.specs.CrashLives.{Generations, newborn, LifeMove, Within, OpensNext, AreLifeMoves, life_after, Stood, is_lost, stand_on, turns_of}
use Rattle.ep_crash_laws.specs.CrashReads.{stood}

-- the nodes at a point: all, those of a generation, and the state that a node has, with what isn't on its disk yet
abbrev pub generations_at : Start → (ℕ → ℕ) → List LifeMove → ℕ → Generations
generations_at start f moves n = life_after f (newborn start) (take n moves)

abbrev pub nodes_at : Start → (ℕ → ℕ) → List LifeMove → ℕ → ℕ → Cluster
nodes_at start f moves g n = (generations_at start f moves n).cluster g

abbrev pub state_at : Start → (ℕ → ℕ) → List LifeMove → ℕ → ℕ → ℕ → State
state_at start f moves g n q = left (f g) q (fresh_state (opened ((generations_at start f moves n).map g q))) ((nodes_at start f moves g n).journal q)

-- what a move leaves of what was done before it
abbrev pub outlast : LifeMove → List Stood → List Stood
outlast (Within g (Take r e)) these = these
outlast (Within g (HandOut r n)) these = these
outlast (Within g (ComeBack r n)) these = without (is_lost g r n) these
outlast (OpensNext g r q base_stamp) these = these

-- the life that stands in the end; the part of it that was done up to a point; and the read there

abbrev pub life_of : List LifeMove → List Turn
life_of moves = turns_of (standing stand_on [] moves)

abbrev pub life_to : List LifeMove → ℕ → List Turn
life_to moves n = turns_of (stood stand_on outlast moves n)

abbrev pub in_life : List LifeMove → Read → Read
in_life moves r = record r { asked = length (life_to moves r.asked); answered = length (life_to moves r.answered) }

-- all the entries that the node had at the point a are on its disk at b, as it has been handed out of them; and until then no crash has taken any of them
pub record IsKept (start : Start) (f : ℕ → ℕ) (moves : List LifeMove) (g q a b : ℕ) : Type 0 where
  pub in_order : a ≤ b
  pub whole : (n : ℕ) → a ≤ n → n ≤ b → length ((nodes_at start f moves g a).journal q) ≤ length ((nodes_at start f moves g n).journal q)
  pub on_disk : length ((nodes_at start f moves g a).journal q) ≤ (nodes_at start f moves g b).out q

-- What a read of one key in generation g has to keep to. Its reply is taken from the reader's map where it is answered, and reported when all is on the reader's disk
-- that it had then.
pub record IsCrashLifeRead (start : Start) (f : ℕ → ℕ) (moves : List LifeMove) (g : ℕ) (r : Read) (reported : ℕ) : Type 0 where
  pub reads : ReadsOneKey r.command
  pub in_order : r.asked ≤ r.answered
  -- more than F nodes of the generation are looked at, each after the question. What they have needn't be on their disks.
  pub many : f g < count (size (f g)) (λ q. is_some (r.looked q))
  pub later : (q n : ℕ) → r.looked q ≡ Some n → r.asked ≤ n
  pub here : (q n : ℕ) → r.looked q ≡ Some n → (generations_at start f moves n).has_opened g q ≡ true
  pub reader : (generations_at start f moves r.answered).has_opened g r.reader ≡ true
  pub kept : IsKept start f moves g r.reader r.answered reported
  -- all that the looks found is executed at the reader when its reply is taken
  pub executed :
      (q n i : ℕ) → r.looked q ≡ Some n → Has (found (state_at start f moves g n q) r.command) i →
      Has (state_at start f moves g r.answered r.reader).executed i

-- the reply of the reader's map
abbrev pub node_reply : Start → (ℕ → ℕ) → List LifeMove → ℕ → Read → Reply
node_reply start f moves g r = reply (state_at start f moves g r.answered r.reader).store r.command

-- Whatever crashes, and whatever disk is lost, every read of one key takes effect between its question and its answer in the life that stands in the end: it is
-- right, or finds the map closed.
abbrev pub CrashLifeReadsAreLinearizable : Type 0
CrashLifeReadsAreLinearizable =
    (start : Start) (f : ℕ → ℕ) → ((g : ℕ) → (0 < f g) × (size (f g) ≤ 256)) → (moves : List LifeMove) → AreLifeMoves f (newborn start) moves →
    (g : ℕ) (r : Read) (reported : ℕ) → IsCrashLifeRead start f moves g r reported →
    let there = in_life moves r in
    (p : ℕ) × (length (history_to start.map f (life_of moves) g there.asked) ≤ p) × (p ≤ length (history_to start.map f (life_of moves) g there.answered))
    × IsRightOrClosed start.map f (life_of moves) g r.command (node_reply start f moves g r) ((generations_at start f moves r.asked).has_opened (suc g)) p

-- What a read of any keys has to keep to. Its reply is taken where it is asked: the looks come after that, and all that they find was executed then.
pub record IsCrashLifeWholeRead (start : Start) (f : ℕ → ℕ) (moves : List LifeMove) (g : ℕ) (r : Read) (reported : ℕ) : Type 0 where
  pub only : only_reads r.command ≡ true
  pub many : f g < count (size (f g)) (λ k. is_some (r.looked k))
  pub later : (k n : ℕ) → r.looked k ≡ Some n → r.asked ≤ n
  pub here : (k n : ℕ) → r.looked k ≡ Some n → (generations_at start f moves n).has_opened g k ≡ true
  pub reader : (generations_at start f moves r.asked).has_opened g r.reader ≡ true
  pub kept : IsKept start f moves g r.reader r.asked reported
  pub executed :
      (k n i : ℕ) → r.looked k ≡ Some n → Has (found (state_at start f moves g n k) r.command) i →
      Has (state_at start f moves g r.asked r.reader).executed i

-- Such a read takes effect where its reply is taken: it is right there, or finds the map closed.
abbrev pub CrashLifeWholeReadsAreLinearizable : Type 0
CrashLifeWholeReadsAreLinearizable =
    (start : Start) (f : ℕ → ℕ) → ((g : ℕ) → (0 < f g) × (size (f g) ≤ 256)) → (moves : List LifeMove) → AreLifeMoves f (newborn start) moves →
    (g : ℕ) (r : Read) (reported : ℕ) → IsCrashLifeWholeRead start f moves g r reported →
    IsRightOrClosed start.map f (life_of moves) g r.command (reply (state_at start f moves g r.asked r.reader).store r.command)
    ((generations_at start f moves r.asked).has_opened (suc g)) (length (history_to start.map f (life_of moves) g (in_life moves r).asked))

-- Real time.

pub record KeepsCrashTime (start : Start) (f : ℕ → ℕ) (moves : List LifeMove) (g : ℕ) (r : Read) (p : ℕ) : Type 0 where
  -- it is behind each operation, of whatever generation, that had been executed by an entry which some node had been handed out of when the read was asked
  pub behind :
      (k q i : ℕ) (e : Entry) → In e (handed_out (nodes_at start f moves k r.asked) q) → Has (order_of e.done) i → HasIn (one_history start.map f (life_of moves)) k i →
      place_in (one_history start.map f (life_of moves)) k i < life_place start.map f (life_of moves) g p
  -- and two reads in turn never go back, whatever their generations
  pub in_turn :
      (k : ℕ) (s : Read) (b : ℕ) → IsRight start.map f (life_of moves) k (in_life moves s) b → r.answered ≤ s.asked →
      life_place start.map f (life_of moves) g p ≤ life_place start.map f (life_of moves) k b

-- Where a read is right, it keeps real time through all generations and crashes. Of one of any keys, which takes effect where it is asked, that is the answer too.
abbrev pub CrashLifeReadsKeepRealTime : Type 0
CrashLifeReadsKeepRealTime =
    (start : Start) (f : ℕ → ℕ) → ((g : ℕ) → (0 < f g) × (size (f g) ≤ 256)) → (moves : List LifeMove) → AreLifeMoves f (newborn start) moves →
    (g : ℕ) (r : Read) → (generations_at start f moves r.answered).has_opened g r.reader ≡ true → (p : ℕ) → IsRight start.map f (life_of moves) g (in_life moves r) p →
    KeepsCrashTime start f moves g r p

-- Reads that write nothing, by the calls of nodes: each look is a question what interferes with the read, and the
-- reader is asked to read, given what was found.
use Rattle.std.specs.Prelude.{◌≡◌, ℕ, suc, ◌<◌, ◌≤◌, List, ◌∷◌, length, drop, Some, is_some}
use Rattle.ep_base.specs.Commands.{Command}
use Rattle.ep_base.specs.Places.{Has}
use Rattle.ep_base.specs.Quorums.{size}
use Rattle.ep_base.specs.declared.reply.Reply.{Reply}
use Rattle.ep_rules.specs.Counting.{count}
use Rattle.ep_laws.specs.Reads.{ReadsOneKey, found, Read}
use Rattle.ep_laws.specs.LifeReads.{history_to, IsRightOrClosed}
use Rattle.ep_node.specs.Crashes.{Start, HandOut}
use Rattle.ep_node.specs.CrashLives.{newborn, LifeMove, Within, AreLifeMoves}
use Rattle.ep_node.specs.LifeCalls.{IsNodeIn}
use Rattle.ep_replica.specs.Kept.{Kept}
use Rattle.ep_replica.specs.Pending.{state_of}
use Rattle.ep_replica.specs.Reading.{IsReading}
use Rattle.ep_replica.specs.declared.reading.Reading.TheVariants.{Replied}
use Rattle.ep_crash_laws.specs.CrashLifeReads.{generations_at, life_of, in_life}

-- Where calls are made: the moves of a life, and a generation in it, whose version counts from the first one's number.
pub record Place : Type 0 where
  pub start : Start
  pub first : ℕ
  pub f : ℕ → ℕ
  pub moves : List LifeMove
  pub g : ℕ

-- node q of the generation has this replica at the point n
pub record IsReplicaOf (at : Place) (n q : ℕ) (k : Kept) : Type 0 where
  pub synced : ℕ
  pub node : IsNodeIn at.first at.f (generations_at at.start at.f at.moves n) at.g k synced
  pub is : k.me ≡ q

-- it has this one, and all that interferes with the command there is among what the reader is given
pub record IsLook (at : Place) (n q : ℕ) (c : Command) (given : List ℕ) : Type 0 where
  pub replica : Kept
  pub has : IsReplicaOf at n q replica
  pub all : (i : ℕ) → Has (found (state_of replica) c) i → Has given i

-- It has this one, and reports this reply, given that. So it hands out of all its entries, which are on its disk then:
-- that is the move at this point.
pub record IsAnswer (at : Place) (n q : ℕ) (c : Command) (given : List ℕ) (y : Reply) : Type 0 where
  pub replica : Kept
  pub has : IsReplicaOf at n q replica
  pub reading : IsReading (state_of replica) c given (Replied y)
  pub reported : drop n at.moves ≡ Within at.g (HandOut q (length replica.entries)) ∷ drop (suc n) at.moves

-- a read of one key in the generation, for which more than F nodes are asked after the question, and which gets this
pub record IsAskedRead (at : Place) (r : Read) (given : List ℕ) (y : Reply) : Type 0 where
  pub reads : ReadsOneKey r.command
  pub in_order : r.asked ≤ r.answered
  pub many : at.f at.g < count (size (at.f at.g)) (λ q. is_some (r.looked q))
  pub later : (q n : ℕ) → r.looked q ≡ Some n → r.asked ≤ n
  pub looks : (q n : ℕ) → r.looked q ≡ Some n → IsLook at n q r.command given
  pub answer : IsAnswer at r.answered r.reader r.command given y

-- Whatever crashes, and whatever disk is lost, what such a read answers takes effect between its question and its
-- answer in the life that stands in the end: it is right, or says that the map is closed.
abbrev pub AskedReadsAreLinearizable : Type 0
AskedReadsAreLinearizable =
    (start : Start) (first : ℕ) (f : ℕ → ℕ) → ((g : ℕ) → (0 < f g) × (size (f g) ≤ 256)) →
    (moves : List LifeMove) → AreLifeMoves f (newborn start) moves →
    (g : ℕ) (r : Read) (given : List ℕ) (y : Reply) →
    let at : Place = record { start = start; first = first; f = f; moves = moves; g = g } in
    IsAskedRead at r given y →
    let there = in_life moves r in
    let done = history_to start.map f (life_of moves) g in
    let next = (generations_at start f moves r.asked).has_opened (suc g) in
    (p : ℕ) × (length (done there.asked) ≤ p) × (p ≤ length (done there.answered))
    × IsRightOrClosed start.map f (life_of moves) g r.command y next p

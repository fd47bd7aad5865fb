-- tools/generate writes this file, from crates/ep_node/specs/CrashLives.antt.
-- Generations of nodes that crash and come back. Each opens with the map that a node of the one before handed out, after it executed a seal.
--
-- A replica whose disk is lost moves no more in the generations that it has opened, and may open the next one.
use Rattle.std.specs.Prelude.{◌≡◌, ℕ, suc, ◌<◌, ◌≤◌, Bool, true, false, ◌&&◌, ◌||◌, eqb, cond, List, [], ◌∷◌, ◌++◌, Some}
use Rattle.ep_base.specs.Interference.{is_seal}
use Rattle.ep_base.specs.Places.{Has}
use Rattle.ep_base.specs.Quorums.{size}
use Rattle.ep_base.specs.declared.decree.Decree.{Decree}
use Rattle.ep_laws.specs.Rows.Generations.{Turn, Opens, Steps, IsLife, birth, opening_map, one_history, IsOneHistory}
use Rattle.ep_laws.specs.Rows.Journals.{Entry, left, Scheduled, of, act_of}
use Rattle.ep_laws.specs.Rows.OneMap.{Contents, Store, opened, is_closed}
use Rattle.ep_laws.specs.Rows.States.{fresh_state, committed_in}
use Rattle.ep_laws.specs.Rows.Steps.{order_of}
use Rattle.ep_laws.specs.Rows.Worlds.{In}
use Rattle.ep_laws.specs.Rows.Crashes.{Start, Cluster, fresh_cluster, Move, Take, HandOut, ComeBack, mover, IsMove, with_at, moved, handed_out, without, is_beyond, standing}

-- The nodes of all generations: which replicas have opened which, with what map, and from which stamp their clocks went on.
pub record Generations : Type 0 where
  pub cluster : ℕ → Cluster
  pub has_opened : ℕ → ℕ → Bool
  pub map : ℕ → ℕ → Contents
  pub base_stamp : ℕ → ℕ → ℕ

-- every replica has opened the first generation, with one map, and no other one
abbrev pub newborn : Start → Generations
newborn start = record { cluster = λ g. fresh_cluster; has_opened = λ g r. eqb g 0; map = λ g r. start.map; base_stamp = λ g r. start.base_stamp r }

-- what the replica opened the generation with
abbrev pub start_of : Generations → ℕ → ℕ → Start
start_of l g r = record { map = l.map g r; base_stamp = l.base_stamp g }

-- the map that those entries leave of which the node has handed something out
abbrev pub store_out : (ℕ → ℕ) → Generations → ℕ → ℕ → Store
store_out f l g r = (left (f g) r (fresh_state (opened (l.map g r))) (handed_out (l.cluster g) r)).store

-- an entry that the node has handed something out of executed a seal, and its stamp isn't above this one
pub record HasSealed (f : ℕ → ℕ) (l : Generations) (g r base_stamp : ℕ) : Type 0 where
  pub entry : Entry
  pub stands : In entry (handed_out (l.cluster g) r)
  pub instance : ℕ
  pub executes : Has (order_of entry.done) instance
  pub decree : Decree
  pub committed : committed_in (left (f g) r (fresh_state (opened (l.map g r))) (handed_out (l.cluster g) r)).records instance ≡ Some decree
  pub seals : is_seal decree.command ≡ true
  pub reached : entry.stamp ≤ base_stamp

pub data LifeMove : Type 0 where
  -- a node of the generation moves
  Within : (generation : ℕ) → (move : Move) → LifeMove
  -- the replica opens the generation after this one, with the map of a node of this one; its clock goes on from the stamp
  OpensNext : (generation replica from base_stamp : ℕ) → LifeMove

-- Only who has opened a generation moves in it. Whoever opens the next one takes a map that entries have closed which were handed out of, and its clock
-- goes on from the stamp of one that executed a seal, or from a later one.
-- f says how many faults each generation stands.
abbrev pub IsLifeMove : (ℕ → ℕ) → Generations → LifeMove → Type 0
IsLifeMove f l (Within g m) = (l.has_opened g (mover m) ≡ true) × IsMove (start_of l g (mover m)) (f g) (l.cluster g) m
IsLifeMove f l (OpensNext g r q base_stamp) = (l.has_opened (suc g) r ≡ false) × (l.has_opened g q ≡ true) × (is_closed (store_out f l g q) ≡ true) × HasSealed f l g q base_stamp

-- the replica has opened the generation after this one, too
abbrev pub opened_next : ℕ → ℕ → (ℕ → ℕ → Bool) → ℕ → ℕ → Bool
opened_next g r was = λ h p. cond (eqb (suc g) h) (eqb r p || was h p) (was h p)

abbrev pub after_move : (ℕ → ℕ) → Generations → LifeMove → Generations
after_move f l (Within g m) = record { cluster = with_at g (moved (l.cluster g) m) l.cluster; has_opened = l.has_opened; map = l.map; base_stamp = l.base_stamp }
after_move f l (OpensNext g r q base_stamp) = record {
  cluster = l.cluster;
  has_opened = opened_next g r l.has_opened;
  map = λ h p. cond (eqb (suc g) h) (cond (eqb r p) (store_out f l g q).contents (l.map h p)) (l.map h p);
  base_stamp = λ h p. cond (eqb (suc g) h) (cond (eqb r p) base_stamp (l.base_stamp h p)) (l.base_stamp h p);
}

-- each move is one of what the earlier ones leave
abbrev pub AreLifeMoves : (ℕ → ℕ) → Generations → List LifeMove → Type 0
AreLifeMoves f l [] = Unit {0}
AreLifeMoves f l (m ∷ ms) = IsLifeMove f l m × AreLifeMoves f (after_move f l m) ms

abbrev pub life_after : (ℕ → ℕ) → Generations → List LifeMove → Generations
life_after f l [] = l
life_after f l (m ∷ ms) = life_after f (after_move f l m) ms

-- What stands, in the order in which it was done: entries, each at its replica, and openings of the generation after this one.
pub data Stood : Type 0 where
  Took : (generation : ℕ) → (act : Scheduled) → Stood
  Opened : (generation replica from : ℕ) → Stood

-- it is an entry of the generation, at r, beyond its first n
abbrev pub is_lost : ℕ → ℕ → ℕ → Stood → Bool
is_lost g r n (Took h a) = eqb g h && is_beyond r n a
is_lost g r n (Opened h q p) = false

abbrev pub stand_on : LifeMove → List Stood → List Stood
stand_on (Within g (Take r e)) these = these ++ (Took g (record { replica = r; entry = e }) ∷ [])
stand_on (Within g (HandOut r n)) these = these
stand_on (Within g (ComeBack r n)) these = without (is_lost g r n) these
stand_on (OpensNext g r q base_stamp) these = these ++ (Opened g r q ∷ [])

-- the entries of a generation
abbrev pub taken_in : ℕ → List Stood → List Scheduled
taken_in g [] = []
taken_in g (Took h a ∷ these) = cond (eqb h g) (a ∷ taken_in g these) (taken_in g these)
taken_in g (Opened h r q ∷ these) = taken_in g these

-- as turns of a life
abbrev pub turn_of : Stood → Turn
turn_of (Took g a) = Steps g (act_of a)
turn_of (Opened g r q) = Opens g r q

abbrev pub turns_of : List Stood → List Turn
turns_of [] = []
turns_of (s ∷ these) = turn_of s ∷ turns_of these

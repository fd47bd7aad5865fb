-- tools/generate writes this file, from crates/ep_node/specs/Crashes.antt.
-- Replicas that crash and come back: their runs, and the laws of these.
--
-- A node is a replica of whose entries a crash may take the last ones, but none that something was handed out of: a frame, an answer, or what it committed.
use Rattle.std.specs.Prelude.{◌≡◌, ◌≢◌, ◌⊎◌, ℕ, ◌+◌, ◌<◌, ◌≤◌, Bool, true, ◌&&◌, max, eqb, ltb, cond, length, List, [], ◌∷◌, ◌++◌, Some, take, drop}
use Rattle.ep_base.specs.Interference.{interfere}
use Rattle.ep_base.specs.Places.{place, Has}
use Rattle.ep_base.specs.Quorums.{size}
use Rattle.ep_base.specs.declared.decree.Decree.{Decree}
use Rattle.ep_laws.specs.Rows.Journals.{Entry, IsEntry, left, AreMarked, AreNumbered, stamp_after, heard, AreClocked, Journals, WasSent, Scheduled, of, IsSchedule, acts_of, IsAmong, ArePlayed}
use Rattle.ep_laws.specs.Rows.States.{fresh_state, committed_in}
use Rattle.ep_laws.specs.Rows.Steps.{Frame}
use Rattle.ep_laws.specs.Rows.Worlds.{opening, In, IsRun, ends}
use Rattle.ep_laws.specs.Rows.OneMap.{Contents, opened, empty}

-- What nodes open with: a map, and for each the stamp that its clock goes on from.
pub record Start : Type 0 where
  pub map : Contents
  pub base_stamp : ℕ → ℕ

-- where a life begins
abbrev pub no_start : Start
no_start = record { map = empty; base_stamp = λ r. 0 }

-- One node.

-- the entry goes on from these entries: the next step, numbered next, stamped by the clock, with its frames marked
pub record IsTaken (start : Start) (f me : ℕ) (es : List Entry) (e : Entry) : Type 0 where
  pub entry : IsEntry f me (left f me (fresh_state (opened start.map)) es) e
  pub number : e.number ≡ length es + 1
  pub stamp : e.stamp ≡ 1 + max (stamp_after (start.base_stamp me) es) (heard e.event)
  pub marked : AreMarked e 0 e.out

-- the first n entries are at least those that were handed out of
pub record IsBetween (out n : ℕ) (es : List Entry) : Type 0 where
  pub least : out ≤ n
  pub most : n ≤ length es

-- after a crash the entries es' are a beginning of those before it, with at least those that were handed out of
pub record ComesBack (out : ℕ) (es es' : List Entry) : Type 0 where
  pub kept : ℕ
  pub between : IsBetween out kept es
  pub is : es' ≡ take kept es

-- Many nodes.

pub record Cluster : Type 0 where
  -- the entries that each node has
  pub journal : Journals
  -- how many of them were handed out of
  pub out : ℕ → ℕ
  -- every frame that was ever handed out: it only grows
  pub given : List Frame

abbrev pub fresh_cluster : Cluster
fresh_cluster = record { journal = λ r. []; out = λ r. 0; given = [] }

pub data Move : Type 0 where
  -- the node takes an event, which leaves the entry
  Take : (replica : ℕ) → (entry : Entry) → Move
  -- its first n entries are handed out of
  HandOut : (replica n : ℕ) → Move
  -- it crashes, and comes back with its first n entries
  ComeBack : (replica n : ℕ) → Move

-- the node that moves
abbrev pub mover : Move → ℕ
mover (Take r e) = r
mover (HandOut r n) = r
mover (ComeBack r n) = r

-- A frame that is handled was handed out. It is handled never, once, or often, and in any order, also where its sender has crashed since.
abbrev pub IsMove : Start → ℕ → Cluster → Move → Type 0
IsMove start f c (Take r e) = (r < size f) × IsTaken start f r (c.journal r) e × IsAmong c.given e.event
IsMove start f c (HandOut r n) = (r < size f) × IsBetween (c.out r) n (c.journal r)
IsMove start f c (ComeBack r n) = (r < size f) × IsBetween (c.out r) n (c.journal r)

abbrev pub frames_in : List Entry → List Frame
frames_in [] = []
frames_in (e ∷ es) = e.out ++ frames_in es

-- x at r, and elsewhere as it was
abbrev pub with_at : {X : Type 0} → ℕ → X → (ℕ → X) → ℕ → X
with_at r x was = λ q. cond (eqb r q) x (was q)

abbrev pub moved : Cluster → Move → Cluster
moved c (Take r e) = record { journal = with_at r (c.journal r ++ (e ∷ [])) c.journal; out = c.out; given = c.given }
moved c (HandOut r n) = record { journal = c.journal; out = with_at r n c.out; given = c.given ++ frames_in (drop (c.out r) (take n (c.journal r))) }
moved c (ComeBack r n) = record { journal = with_at r (take n (c.journal r)) c.journal; out = c.out; given = c.given }

-- each move is one of the cluster that the earlier ones leave
abbrev pub AreMoves : Start → ℕ → Cluster → List Move → Type 0
AreMoves start f c [] = Unit {0}
AreMoves start f c (m ∷ ms) = IsMove start f c m × AreMoves start f (moved c m) ms

-- the cluster that moves leave
abbrev pub cluster_after : Cluster → List Move → Cluster
cluster_after c [] = c
cluster_after c (m ∷ ms) = cluster_after (moved c m) ms

-- the entries that were handed out of
abbrev pub handed_out : Cluster → ℕ → List Entry
handed_out c r = take (c.out r) (c.journal r)

-- these without those that are lost
abbrev pub without : {X : Type 0} → (X → Bool) → List X → List X
without lost [] = []
without lost (x ∷ these) = cond (lost x) (without lost these) (x ∷ without lost these)

-- it is an entry at r, beyond its first n
abbrev pub is_beyond : ℕ → ℕ → Scheduled → Bool
is_beyond r n a = eqb a.replica r && ltb n a.entry.number

abbrev pub stand_after : Move → List Scheduled → List Scheduled
stand_after (Take r e) these = these ++ (record { replica = r; entry = e } ∷ [])
stand_after (HandOut r n) these = these
stand_after (ComeBack r n) these = without (is_beyond r n) these

-- what stands after moves, in the order in which it was done, after these
abbrev pub standing : {M X : Type 0} → (M → List X → List X) → List X → List M → List X
standing stand these [] = these
standing stand these (m ∷ ms) = standing stand (stand m these) ms

-- Replicas that crash and come back: their runs, and the laws of these.
--
-- A node is a replica of whose entries a crash may take the last ones, but none that something was handed out of: a frame, an answer, or what it committed.
use Rattle.std.specs.Prelude.{◌≡◌, ◌≢◌, ◌⊎◌, ℕ, ◌+◌, ◌<◌, ◌≤◌, Bool, true, ◌&&◌, max, eqb, ltb, cond, length, List, [], ◌∷◌, ◌++◌, Some, take, drop}
use Rattle.ep_base.specs.Interference.{interfere}
use Rattle.ep_base.specs.Places.{place, Has}
use Rattle.ep_base.specs.Quorums.{size}
use Rattle.ep_base.specs.declared.decree.Decree.{Decree}
use Rattle.ep_rules.specs.Audits.{IsAccepted}
use Rattle.ep_rules.specs.Journals.{Entry, IsEntry, left, AreMarked, AreNumbered, stamp_after, heard, AreClocked, Journals, WasSent, Scheduled, of, IsSchedule, acts_of, IsAmong, ArePlayed}
use Rattle.ep_rules.specs.Linearizable.{IsLinearizable}
use Rattle.ep_rules.specs.Merging.{Merges}
use Rattle.ep_rules.specs.States.{fresh_state, committed_in}
use Rattle.ep_rules.specs.Steps.{Frame}
use Rattle.ep_rules.specs.Verdicts.{committed_by, command_at, history_of, IsReply, IsOwn, AreOwn}
use Rattle.ep_rules.specs.Worlds.{opening, In, IsRun, ends}
use Rattle.ep_rules.specs.declared.receipt.Receipt.{Receipt}
use Rattle.ep_rules.specs.OneMap.{Contents, opened, empty}

-- What nodes open with: a map, and for each the stamp that its clock goes on from.
pub record Start : Type 0 where
  pub map : Contents
  pub base_stamp : ℕ → ℕ

-- where a life begins
abbrev pub no_start : Start
no_start = record { map = empty; base_stamp = λ r. 0 }

-- One node.

-- the entry goes on from these entries: the next step, numbered next, stamped by the clock, with its frames marked
pub record IsTaken (start : Start) (f me : ℕ) (es : List Entry) (e : Entry) : Type 0 where
  pub entry : IsEntry f me (left f me (fresh_state (opened start.map)) es) e
  pub number : e.number ≡ length es + 1
  pub stamp : e.stamp ≡ 1 + max (stamp_after (start.base_stamp me) es) (heard e.event)
  pub marked : AreMarked e 0 e.out

-- the first n entries are at least those that were handed out of
pub record IsBetween (out n : ℕ) (es : List Entry) : Type 0 where
  pub least : out ≤ n
  pub most : n ≤ length es

-- after a crash the entries es' are a beginning of those before it, with at least those that were handed out of
pub record ComesBack (out : ℕ) (es es' : List Entry) : Type 0 where
  pub kept : ℕ
  pub between : IsBetween out kept es
  pub is : es' ≡ take kept es

-- Many nodes.

pub record Cluster : Type 0 where
  -- the entries that each node has
  pub journal : Journals
  -- how many of them were handed out of
  pub out : ℕ → ℕ
  -- every frame that was ever handed out: it only grows
  pub given : List Frame

abbrev pub fresh_cluster : Cluster
fresh_cluster = record { journal = λ r. []; out = λ r. 0; given = [] }

pub data Move : Type 0 where
  -- the node takes an event, which leaves the entry
  Take : (replica : ℕ) → (entry : Entry) → Move
  -- its first n entries are handed out of
  HandOut : (replica n : ℕ) → Move
  -- it crashes, and comes back with its first n entries
  ComeBack : (replica n : ℕ) → Move

-- the node that moves
abbrev pub mover : Move → ℕ
mover (Take r e) = r
mover (HandOut r n) = r
mover (ComeBack r n) = r

-- A frame that is handled was handed out. It is handled never, once, or often, and in any order, also where its sender has crashed since.
abbrev pub IsMove : Start → ℕ → Cluster → Move → Type 0
IsMove start f c (Take r e) = (r < size f) × IsTaken start f r (c.journal r) e × IsAmong c.given e.event
IsMove start f c (HandOut r n) = (r < size f) × IsBetween (c.out r) n (c.journal r)
IsMove start f c (ComeBack r n) = (r < size f) × IsBetween (c.out r) n (c.journal r)

abbrev pub frames_in : List Entry → List Frame
frames_in [] = []
frames_in (e ∷ es) = e.out ++ frames_in es

-- x at r, and elsewhere as it was
abbrev pub with_at : {X : Type 0} → ℕ → X → (ℕ → X) → ℕ → X
with_at r x was = λ q. cond (eqb r q) x (was q)

abbrev pub moved : Cluster → Move → Cluster
moved c (Take r e) = record { journal = with_at r (c.journal r ++ (e ∷ [])) c.journal; out = c.out; given = c.given }
moved c (HandOut r n) = record { journal = c.journal; out = with_at r n c.out; given = c.given ++ frames_in (drop (c.out r) (take n (c.journal r))) }
moved c (ComeBack r n) = record { journal = with_at r (take n (c.journal r)) c.journal; out = c.out; given = c.given }

-- each move is one of the cluster that the earlier ones leave
abbrev pub AreMoves : Start → ℕ → Cluster → List Move → Type 0
AreMoves start f c [] = Unit {0}
AreMoves start f c (m ∷ ms) = IsMove start f c m × AreMoves start f (moved c m) ms

-- the cluster that moves leave
abbrev pub cluster_after : Cluster → List Move → Cluster
cluster_after c [] = c
cluster_after c (m ∷ ms) = cluster_after (moved c m) ms

-- the entries that were handed out of
abbrev pub handed_out : Cluster → ℕ → List Entry
handed_out c r = take (c.out r) (c.journal r)

-- What holds whatever crashed.

-- the nodes' entries are the journals of one run without a crash, whose states the nodes have
pub record IsOneRun (start : Start) (f : ℕ) (c : Cluster) : Type 0 where
  pub schedule : List Scheduled
  pub merges : Merges (opened start.map) f c.journal schedule
  pub run : IsRun f (opening (opened start.map)) (acts_of schedule)
  pub states : (r : ℕ) → (ends f (opening (opened start.map)) (acts_of schedule)).states r ≡ left f r (fresh_state (opened start.map)) (c.journal r)
  -- what was handed out of stands, and the run has sent each frame that was handed out
  pub within : (r : ℕ) → c.out r ≤ length (c.journal r)
  pub given : (m : Frame) → In m c.given → WasSent c.journal m × In m.sent (ends f (opening (opened start.map)) (acts_of schedule)).sent
  -- no audit of them finds a fault
  pub clocked : (r : ℕ) → AreClocked (start.base_stamp r) (c.journal r)
  pub accepted : (receipts : List Receipt) → AreOwn (opened start.map) f c.journal receipts → IsAccepted (opened start.map) f c.journal receipts

-- What is left of a run with crashes is a run without.
abbrev pub CrashingRunsAreRuns : Type 0
CrashingRunsAreRuns = (start : Start) (f : ℕ) → 0 < f → size f ≤ 256 → (moves : List Move) → AreMoves start f fresh_cluster moves → IsOneRun start f (cluster_after fresh_cluster moves)

-- In the order of real time.

-- these without those that are lost
abbrev pub without : {X : Type 0} → (X → Bool) → List X → List X
without lost [] = []
without lost (x ∷ these) = cond (lost x) (without lost these) (x ∷ without lost these)

-- it is an entry at r, beyond its first n
abbrev pub is_beyond : ℕ → ℕ → Scheduled → Bool
is_beyond r n a = eqb a.replica r && ltb n a.entry.number

abbrev pub stand_after : Move → List Scheduled → List Scheduled
stand_after (Take r e) these = these ++ (record { replica = r; entry = e } ∷ [])
stand_after (HandOut r n) these = these
stand_after (ComeBack r n) these = without (is_beyond r n) these

-- what stands after moves, in the order in which it was done, after these
abbrev pub standing : {M X : Type 0} → (M → List X → List X) → List X → List M → List X
standing stand these [] = these
standing stand these (m ∷ ms) = standing stand (stand m these) ms

-- the entries, in this order, are the nodes', and a linearizable run
pub record IsInRealTime (start : Start) (f : ℕ) (c : Cluster) (these : List Scheduled) : Type 0 where
  pub own : (r : ℕ) → of r these ≡ c.journal r
  pub played : ArePlayed f (opening (opened start.map)) [] these
  pub run : IsRun f (opening (opened start.map)) (acts_of these)
  pub linearizable : IsLinearizable (opened start.map) f (acts_of these)

-- What stands of a run with crashes is linearizable, in the order in which it was taken.
abbrev pub CrashingRunsAreLinearizable : Type 0
CrashingRunsAreLinearizable =
    (start : Start) (f : ℕ) → 0 < f → size f ≤ 256 → (moves : List Move) → AreMoves start f fresh_cluster moves → IsInRealTime start f (cluster_after fresh_cluster moves) (standing stand_after [] moves)

-- Without crashes.

-- no crash is among them
abbrev pub IsCalm : List Move → Type 0
IsCalm [] = Unit {0}
IsCalm (Take r e ∷ ms) = IsCalm ms
IsCalm (HandOut r n ∷ ms) = IsCalm ms
IsCalm (ComeBack r n ∷ ms) = ⊥

-- Whatever moves lead to, moves without a crash lead to: an entry that a crash took is as if it had never been.
abbrev pub CrashesLeaveNoTrace : Type 0
CrashesLeaveNoTrace =
    (start : Start) (f : ℕ) (moves : List Move) → AreMoves start f fresh_cluster moves →
    (calm : List Move) × IsCalm calm × AreMoves start f fresh_cluster calm × (cluster_after fresh_cluster calm ≡ cluster_after fresh_cluster moves)

-- Whatever a world plays by the clock, moves without a crash lead to: the runs with crashes have all runs without.
abbrev pub PlayedRunsAreMoves : Type 0
PlayedRunsAreMoves =
    (start : Start) (f : ℕ) (schedule : List Scheduled) → ArePlayed f (opening (opened start.map)) [] schedule → ((r : ℕ) → AreNumbered 1 0 (of r schedule)) → ((r : ℕ) → AreClocked (start.base_stamp r) (of r schedule)) →
    (moves : List Move) × IsCalm moves × AreMoves start f fresh_cluster moves × ((r : ℕ) → (cluster_after fresh_cluster moves).journal r ≡ of r schedule)

-- What was handed out.

abbrev pub IsBeginning : {X : Type 0} → List X → List X → Type 0
IsBeginning xs ys = (rest : List _) × (xs ++ rest ≡ ys)

-- what was handed out stays so: its entries, and its frames
pub record Lasts (before after : Cluster) : Type 0 where
  pub handed : (r : ℕ) → IsBeginning (handed_out before r) (handed_out after r)
  pub stands : (r : ℕ) → IsBeginning (handed_out before r) (after.journal r)
  pub given : IsBeginning before.given after.given

-- No crash takes back what was handed out.
abbrev pub HandedOutStays : Type 0
HandedOutStays =
    (start : Start) (f : ℕ) (early late : List Move) → AreMoves start f fresh_cluster (early ++ late) → Lasts (cluster_after fresh_cluster early) (cluster_after fresh_cluster (early ++ late))

-- what is said of two points of one run
abbrev pub AtTwoPoints : (Start → ℕ → Cluster → Cluster → Type 0) → Type 0
AtTwoPoints P =
    (start : Start) (f : ℕ) → 0 < f → size f ≤ 256 → (early late : List Move) → AreMoves start f fresh_cluster (early ++ late) → P start f (cluster_after fresh_cluster early) (cluster_after fresh_cluster (early ++ late))

-- what the entries that r was handed out of commit in instance i
abbrev pub CommittedOut : Start → ℕ → Cluster → ℕ → ℕ → Decree → Type 0
CommittedOut start f c r i x = committed_in (left f r (fresh_state (opened start.map)) (handed_out c r)).records i ≡ Some x

-- What was handed out of a node and what any node commits later agree: its own commits stay, no two of one instance differ, and of two that interfere one depends on the other.
pub record AgreeOver (start : Start) (f : ℕ) (before after : Cluster) : Type 0 where
  pub stays : (r i : ℕ) (x : Decree) → CommittedOut start f before r i x → committed_by (opened start.map) f after.journal r i ≡ Some x
  pub agree : (i r q : ℕ) (x y : Decree) → CommittedOut start f before r i x → committed_by (opened start.map) f after.journal q i ≡ Some y → x ≡ y
  pub depend :
      (i j r q : ℕ) (x y : Decree) → i ≢ j → CommittedOut start f before r i x → committed_by (opened start.map) f after.journal q j ≡ Some y →
      interfere x.command y.command ≡ true → Has x.attrs.deps j ⊎ Has y.attrs.deps i

abbrev pub CrashesKeepAgreement : Type 0
CrashesKeepAgreement = AtTwoPoints AgreeOver

-- Receipts.

-- the receipt was handed out of the replica that proposed and executed its command
abbrev pub IsHandedOut : Start → ℕ → Cluster → Receipt → Type 0
IsHandedOut start f c t = (r : ℕ) × IsOwn (opened start.map) f r (handed_out c r) t

-- Receipts that were handed out are right at every later point.
pub record ReceiptsStay (start : Start) (f : ℕ) (before after : Cluster) : Type 0 where
  -- their replicas' entries have them still, and no audit finds a fault in them
  pub own : (r : ℕ) (t : Receipt) → IsOwn (opened start.map) f r (handed_out before r) t → IsOwn (opened start.map) f r (after.journal r) t
  pub accepted : (receipts : List Receipt) → ((t : Receipt) → In t receipts → IsHandedOut start f before t) → IsAccepted (opened start.map) f after.journal receipts
  -- each answer is one map's reply to the history of that point
  pub replies :
      (schedule : List Scheduled) → IsSchedule after.journal schedule → (t : Receipt) → IsHandedOut start f before t →
      IsReply (opened start.map) (command_at (opened start.map) f after.journal) (history_of (command_at (opened start.map) f after.journal) schedule) t.instance t.answer
  -- there, what a client proposes after it saw an earlier receipt's stamp stands after that receipt's command
  pub order :
      (schedule : List Scheduled) → IsSchedule after.journal schedule → (t u : Receipt) → IsHandedOut start f after t → IsHandedOut start f before u → u.stamp ≤ t.seen →
      let h = history_of (command_at (opened start.map) f after.journal) schedule in
      Has h t.instance → Has h u.instance → place h u.instance < place h t.instance

abbrev pub CrashesKeepReceipts : Type 0
CrashesKeepReceipts = AtTwoPoints ReceiptsStay

-- What a request does to a node's replica, and the answer that is due for it.
use Rattle.std.specs.Prelude.{◌≡◌, ◌⊎◌, ℕ, zero, suc, ◌+◌, ◌-◌, ◌<◌, ◌^◌, Bool, true, false, cond, eqb, List, [], ◌∷◌, length}
use Rattle.ep_base.specs.Instances.{leader_of}
use Rattle.ep_journal.specs.Entries.{entries_of}
use Rattle.ep_journal.specs.declared.event.Event.{Event as Happening}
use Rattle.ep_journal.specs.declared.event.Event.TheVariants as event
use Rattle.ep_journal.specs.declared.step_fault.StepFault.TheVariants.{Memory, StampFull}
use Rattle.ep_node.specs.Executing.{IsOutstanding, IsTried}
use Rattle.ep_node.specs.Nodes.{Logged, Takes}
use Rattle.ep_replica.specs.Applied.{IsDeclined}
use Rattle.ep_replica.specs.Kept.{Kept}
use Rattle.ep_replica.specs.Pending.{ExecutesNext, IsHeldUp, IsPending, IsWaiting}
use Rattle.ep_rules.specs.Journals.{stamp_after}
use Rattle.ep_serve.specs.declared.pending_answer.PendingAnswer.{PendingAnswer}
use Rattle.ep_serve.specs.declared.pending_answer.PendingAnswer.TheVariants.{Taken, Refused, Value, Open, Leads, Synced, State, Ready, Handled, Interfering, Read, Malformed}
use Rattle.ep_journal.specs.declared.refusal.Refusal.{Refusal}
use Rattle.ep_journal.specs.declared.refusal.Refusal.TheVariants.{BadFrame, NoSuchMessage, Step}
use Rattle.ep_wire.specs.declared.request.Request.{Request}
use Rattle.ep_wire.specs.declared.request.Request.TheVariants as request

-- why an event isn't taken
abbrev pub IsRefusal : Kept → Happening → Refusal → Type 0
IsRefusal k happening BadFrame = ⊥
IsRefusal k happening (NoSuchMessage message) = ⊥
IsRefusal k happening (Step fault) = IsDeclined k happening fault

-- the event's step is taken, the next entry; or it is refused, and nothing changes
abbrev pub TakesOrRefuses : Kept → Happening → PendingAnswer → Kept → Type 0
TakesOrRefuses k happening (Taken from count) k' = (from ≡ length k.entries) × (count ≡ 1) × Takes k happening k'
TakesOrRefuses k happening (Refused refusal) k' = IsRefusal k happening refusal × (k' ≡ k)
TakesOrRefuses k happening (Value key) k' = ⊥
TakesOrRefuses k happening (Open after) k' = ⊥
TakesOrRefuses k happening (Leads i) k' = ⊥
TakesOrRefuses k happening Synced k' = ⊥
TakesOrRefuses k happening State k' = ⊥
TakesOrRefuses k happening (Ready after most) k' = ⊥
TakesOrRefuses k happening (Handled r) k' = ⊥
TakesOrRefuses k happening (Interfering key) k' = ⊥
TakesOrRefuses k happening (Read key found) k' = ⊥
TakesOrRefuses k happening (Malformed m) k' = ⊥

-- the stamp that a client has seen is more than 2^40 above that of the replica's last entry
abbrev pub IsFarAhead : Kept → ℕ → Type 0
IsFarAhead k seen = stamp_after k.opening.base_stamp (entries_of k.entries) + 2 ^ 40 < seen

-- the stamp that an event's client has seen; 0 where no client asks for it
abbrev pub seen_by : Happening → ℕ
seen_by (event.Propose client number command seen named) = seen
seen_by (event.Handle frame) = 0
seen_by (event.GiveUp i) = 0
seen_by (event.Recover i) = 0
seen_by (event.Execute i) = 0

-- an event whose client has seen so high a stamp is refused as one for which no stamp is left, and nothing changes; any other is taken, or refused
abbrev pub TakesNear : Kept → Happening → PendingAnswer → Kept → Type 0
TakesNear k happening due k' = (IsFarAhead k (seen_by happening) × (due ≡ Refused (Step StampFull)) × (k' ≡ k)) ⊎ ((¬ IsFarAhead k (seen_by happening)) × TakesOrRefuses k happening due k')

-- How it is reported that all that was ready was executed.

-- the entries that were made behind the first ones, so many
abbrev pub made_since : ℕ → Kept → PendingAnswer
made_since from k = Taken from (length k.entries - from)

-- where no stamp is left for the next one: the entries that were made; or, if none was, that refusal
abbrev pub stopped_since : ℕ → Kept → PendingAnswer
stopped_since from k = cond (eqb (length k.entries) from) (Refused (Step StampFull)) (made_since from k)

-- Executing own instances.

-- so many were executed, each the least that was ready
abbrev pub ExecutesSo : ℕ → Kept → Kept → Type 0
ExecutesSo zero k k' = k' ≡ k
ExecutesSo (suc n) k k' = (m : Kept) × ExecutesSo n k m × ExecutesNext m true k'

-- each that is committed and not executed waits for one that isn't committed
abbrev pub NoOwnIsReady : Kept → Type 0
NoOwnIsReady k = (i : ℕ) → IsPending k i → IsWaiting k i

-- so many, and then none is ready, or no stamp is left for the next one
abbrev pub AdvancesAll : Kept → PendingAnswer → Kept → Type 0
AdvancesAll k due k' =
    (times : ℕ) × ExecutesSo times k k' × ((NoOwnIsReady k' × (due ≡ made_since (length k.entries) k')) ⊎ (IsHeldUp k' StampFull × (due ≡ stopped_since (length k.entries) k')))

-- so many, and for the next one memory was wanted
abbrev pub AdvancesShort : Kept → Kept → Type 0
AdvancesShort k k' = (times : ℕ) × ExecutesSo times k k' × IsHeldUp k' Memory

-- Executing all that is ready, own or not.

-- each of these instances in its turn was committed and not executed, and was executed, with all that it waits for
abbrev pub ExecutesEach : Kept → List ℕ → Kept → Type 0
ExecutesEach k [] k' = k' ≡ k
ExecutesEach k (i ∷ is) k' = (m : Kept) × IsOutstanding k i × Takes k (event.Execute i) m × ExecutesEach m is k'

-- one is committed and not executed, and its entry would have no stamp
abbrev pub IsStampless : Kept → Type 0
IsStampless k = (i : ℕ) × IsOutstanding k i × IsDeclined k (event.Execute i) StampFull

-- each that is committed and not executed waits for one that isn't committed
abbrev pub NoneIsReady : Kept → Type 0
NoneIsReady k = (i : ℕ) → IsOutstanding k i → IsWaiting k i

abbrev pub ExecutesAll : Kept → PendingAnswer → Kept → Type 0
ExecutesAll k due k' =
    (roots : List ℕ) × ExecutesEach k roots k' × ((NoneIsReady k' × (due ≡ made_since (length k.entries) k')) ⊎ (IsStampless k' × (due ≡ stopped_since (length k.entries) k')))

-- Memory was wanted to execute one that is committed and not executed. Each lesser one waits for one that isn't committed.
pub record WantsMemory (k : Kept) : Type 0 where
  pub next : ℕ
  pub outstanding : IsOutstanding k next
  pub lesser : (j : ℕ) → IsOutstanding k j → j < next → IsWaiting k j

-- some were executed, each in its turn, and for the next one memory was wanted
abbrev pub StopsShort : Kept → Kept → Type 0
StopsShort k k' = (roots : List ℕ) × ExecutesEach k roots k' × WantsMemory k'

-- The way there, instance by instance and leader by leader.

-- an instance was tried; or no stamp is left for its entry, and nothing changed
abbrev pub TriesOne : Kept → ℕ → Bool → Kept → Type 0
TriesOne k i true k' = (executed : Bool) × IsTried k i executed k'
TriesOne k i false k' = (IsOutstanding k i × IsDeclined k (event.Execute i) StampFull) × (k' ≡ k)

-- none of this leader's is ready; or no stamp is left
abbrev pub IsSwept : ℕ → Bool → Kept → Type 0
IsSwept r true k = (i : ℕ) → leader_of i ≡ r → IsOutstanding k i → IsWaiting k i
IsSwept r false k = IsStampless k

-- all leaders' were swept; or no stamp is left
abbrev pub AreSwept : Bool → Kept → Type 0
AreSwept true k = NoneIsReady k
AreSwept false k = IsStampless k

-- memory was wanted to execute one of this leader's; each lesser one of the leader's waits
pub record LedWantsMemory (r : ℕ) (k : Kept) : Type 0 where
  pub next : ℕ
  pub led : leader_of next ≡ r
  pub outstanding : IsOutstanding k next
  pub lesser : (j : ℕ) → leader_of j ≡ r → IsOutstanding k j → j < next → IsWaiting k j

-- a request that asks changes nothing
abbrev pub Asks : Kept → PendingAnswer → PendingAnswer → Kept → Type 0
Asks k asked due k' = (due ≡ asked) × (k' ≡ k)

abbrev pub Acts : Kept → Request → PendingAnswer → Kept → Type 0
Acts k (request.Event happening) due k' = TakesNear k happening due k'
Acts k request.BadFrame due k' = (due ≡ Refused BadFrame) × (k' ≡ k)
Acts k request.Advance due k' = AdvancesAll k due k'
Acts k (request.Get key) due k' = Asks k (Value key) due k'
Acts k (request.NextOpen after) due k' = Asks k (Open after) due k'
Acts k (request.Leads i) due k' = Asks k (Leads i) due k'
Acts k request.Sync due k' = Asks k Synced due k'
Acts k request.State due k' = Asks k State due k'
Acts k request.ExecuteAll due k' = ExecutesAll k due k'
Acts k (request.Ready after most) due k' = Asks k (Ready after most) due k'
Acts k (request.Handled r) due k' = Asks k (Handled r) due k'
Acts k (request.Interfering key) due k' = Asks k (Interfering key) due k'
Acts k (request.Read key found) due k' = Asks k (Read key found) due k'
Acts k (request.Malformed m) due k' = Asks k (Malformed m) due k'

-- the device has failed, and nothing changed
abbrev pub IsPassedOver : {D : Type 0} → Logged D → Logged D → Type 0
IsPassedOver n n' = (n.closed ≡ true) × (n' ≡ n)

-- a request to execute all that is ready stopped when out of memory, when some were executed
abbrev pub IsCutShort : Kept → Request → Kept → Type 0
IsCutShort k (request.Event happening) k' = ⊥
IsCutShort k request.BadFrame k' = ⊥
IsCutShort k request.Advance k' = AdvancesShort k k'
IsCutShort k (request.Get key) k' = ⊥
IsCutShort k (request.NextOpen after) k' = ⊥
IsCutShort k (request.Leads i) k' = ⊥
IsCutShort k request.Sync k' = ⊥
IsCutShort k request.State k' = ⊥
IsCutShort k request.ExecuteAll k' = StopsShort k k'
IsCutShort k (request.Ready after most) k' = ⊥
IsCutShort k (request.Handled r) k' = ⊥
IsCutShort k (request.Interfering key) k' = ⊥
IsCutShort k (request.Read key found) k' = ⊥
IsCutShort k (request.Malformed m) k' = ⊥

-- Why a request wasn't done: a node whose device has failed passes over what would change it; executing all that is ready may stop when out of memory; and no
-- other fails.
abbrev pub IsUndone : {D : Type 0} → Logged D → Request → Logged D → Type 0
IsUndone n (request.Event happening) n' = IsPassedOver n n'
IsUndone n request.BadFrame n' = ⊥
IsUndone n request.Advance n' = IsPassedOver n n' ⊎ IsCutShort n.replica request.Advance n'.replica
IsUndone n (request.Get key) n' = ⊥
IsUndone n (request.NextOpen after) n' = ⊥
IsUndone n (request.Leads i) n' = ⊥
IsUndone n request.Sync n' = ⊥
IsUndone n request.State n' = ⊥
IsUndone n request.ExecuteAll n' = IsPassedOver n n' ⊎ IsCutShort n.replica request.ExecuteAll n'.replica
IsUndone n (request.Ready after most) n' = ⊥
IsUndone n (request.Handled r) n' = ⊥
IsUndone n (request.Interfering key) n' = ⊥
IsUndone n (request.Read key found) n' = ⊥
IsUndone n (request.Malformed m) n' = ⊥

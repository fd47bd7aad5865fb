-- Laws of journals: where they match, they are one run of a world; and what a world plays are journals that match.
use Rattle.std.specs.Prelude.{◌≡◌, ◌≢◌, ◌⊎◌, ◌↔◌, ℕ, ◌+◌, ◌<◌, ◌≤◌, true, false, max, length, List, [], ◌∷◌, ◌++◌, Option, Some, slice_get}
use Rattle.ep_base.specs.Instances.{instance_of, leader_of}
use Rattle.ep_base.specs.Interference.{interfere}
use Rattle.ep_base.specs.Messages.{instance_of_message}
use Rattle.ep_base.specs.Quorums.{size}
use Rattle.ep_base.specs.Sameness.{is_noop}
use Rattle.ep_base.specs.Commands.{Command}
use Rattle.ep_base.specs.declared.decree.Decree.{Decree}
use Rattle.ep_base.specs.declared.reply.Answer.{Answer}
use Rattle.ep_base.specs.Places.{place, Has}
use Rattle.ep_rules.specs.States.{State, fresh_state, free_number, committed_in}
use Rattle.ep_rules.specs.Steps.{Propose, Handle, Frame}
use Rattle.ep_rules.specs.Worlds.{opening, In, IsRun, ends}
use Rattle.ep_rules.specs.Journals.{Entry, messages_of, IsEntry, AreSteps, left, AreMarked, AreNumbered, IsLocalRun, last_stamp, stamp_after, heard, AreClocked, asked_in, Journals, AreLocalRuns, WasSent, IsMatched, Scheduled, of, IsSchedule, acts_of, Plays, ArePlayed, frames_of}
use Rattle.ep_rules.specs.Audits.{HasOrigin, IsAccepted, Fault, IsFault}
use Rattle.ep_rules.specs.Verdicts.{committed_by, agreed, command_at, IsTable, history_of, IsReply, Proposes, ReportsOf, HasDone, IsKnown, Agrees, IsOwn, AreOwn}
use Rattle.ep_rules.specs.declared.receipt.Receipt.{Receipt}
use Rattle.ep_rules.specs.OneMap.{Store}

-- Journals that match are one run.

-- Matched local runs, in the order of stamps, are a run of the world.
abbrev pub MergedIsARun : Type 0
MergedIsARun = (base : Store) → (f : ℕ) (journal : Journals) (schedule : List Scheduled) → AreLocalRuns base f journal → IsMatched journal → IsSchedule journal schedule → IsRun f (opening base) (acts_of schedule)

-- Journals have one schedule at most.
abbrev pub OneSchedule : Type 0
OneSchedule = (journal : Journals) (first second : List Scheduled) → IsSchedule journal first → IsSchedule journal second → first ≡ second

-- Numbered journals of n replicas have a schedule.
abbrev pub SomeSchedule : Type 0
SomeSchedule = (n : ℕ) (journal : Journals) → ((r : ℕ) → n ≤ r → journal r ≡ []) → ((r : ℕ) → AreNumbered 1 0 (journal r)) → (schedule : List Scheduled) × IsSchedule journal schedule

-- A replica's state in the world that a schedule leaves is what its own entries leave.
abbrev pub OwnEntriesLeave : Type 0
OwnEntriesLeave = (base : Store) → (f : ℕ) (schedule : List Scheduled) (r : ℕ) → (ends f (opening base) (acts_of schedule)).states r ≡ left f r (fresh_state base) (of r schedule)

-- Journals of 2f+1 replicas that match, with their schedule.
pub record Merges (base : Store) (f : ℕ) (journal : Journals) (schedule : List Scheduled) : Type 0 where
  pub some : 0 < f
  pub few : size f ≤ 256
  pub local : AreLocalRuns base f journal
  pub matched : IsMatched journal
  pub scheduled : IsSchedule journal schedule

-- No two of them commit different commands or attributes in an instance.
abbrev pub JournalsAgree : Type 0
JournalsAgree = (base : Store) →
    (f : ℕ) (journal : Journals) (schedule : List Scheduled) → Merges base f journal schedule →
    (i r q : ℕ) (x y : Decree) → committed_by base f journal r i ≡ Some x → committed_by base f journal q i ≡ Some y → x ≡ y

-- What a replica has committed after some of its entries, it has committed after all of them.
abbrev pub JournalsKeep : Type 0
JournalsKeep = (base : Store) →
    (f me : ℕ) (before rest : List Entry) (i : ℕ) (x : Decree) → committed_in (left f me (fresh_state base) before).records i ≡ Some x → committed_in (left f me (fresh_state base) (before ++ rest)).records i ≡ Some x

-- A committed command other than a no-op was proposed, as this instance, by the replica that leads it.
abbrev pub JournalsPropose : Type 0
JournalsPropose = (base : Store) →
    (f : ℕ) (journal : Journals) (schedule : List Scheduled) → Merges base f journal schedule →
    (r i : ℕ) (x : Decree) → committed_by base f journal r i ≡ Some x → is_noop x.command ≡ false →
    (client request : ℕ) × (p : Proposes base f (leader_of i) (journal (leader_of i)) i client request) × (p.command ≡ x.command)

-- Of two interfering commands that they commit one depends on the other.
abbrev pub JournalsDepend : Type 0
JournalsDepend = (base : Store) →
    (f : ℕ) (journal : Journals) (schedule : List Scheduled) → Merges base f journal schedule →
    (i j r q : ℕ) (x y : Decree) → i ≢ j → committed_by base f journal r i ≡ Some x → committed_by base f journal q j ≡ Some y →
    interfere x.command y.command ≡ true → Has x.attrs.deps j ⊎ Has y.attrs.deps i

-- What is agreed on in an instance is what some of them commit there.
abbrev pub AgreedIs : Type 0
AgreedIs = (base : Store) →
    (f : ℕ) (journal : Journals) (schedule : List Scheduled) → Merges base f journal schedule →
    (i : ℕ) (x : Decree) → (agreed base f journal i ≡ Some x) ↔ ((r : ℕ) × (r < size f) × (committed_by base f journal r i ≡ Some x))

-- Journals have one table at most.
abbrev pub OneTable : Type 0
OneTable = (base : Store) → (f : ℕ) (journal : Journals) (first second : List (ℕ × Decree)) → IsTable base f journal first → IsTable base f journal second → first ≡ second

-- Each executed answer is one map's reply to one history.
abbrev pub EachReply : Type 0
EachReply = (base : Store) →
    (f : ℕ) (journal : Journals) (schedule : List Scheduled) → Merges base f journal schedule →
    (a : Scheduled) (i : ℕ) (x : Answer) → In a schedule → In (i, x) a.entry.done →
    IsReply base (command_at base f journal) (history_of (command_at base f journal) schedule) i x

-- Each replica executes two interfering commands in the history's order.
abbrev pub JournalsOrder : Type 0
JournalsOrder = (base : Store) →
    (f : ℕ) (journal : Journals) (schedule : List Scheduled) → Merges base f journal schedule → (r i j : ℕ) →
    let own = (left f r (fresh_state base) (journal r)).executed in
    let h = history_of (command_at base f journal) schedule in
    Has own i → Has own j → i ≢ j → interfere (command_at base f journal i) (command_at base f journal j) ≡ true → (place own i < place own j) ↔ (place h i < place h j)

-- Each caller's order is kept: what a client proposes after it saw a receipt's stamp stands after that receipt's command.
abbrev pub CallerOrder : Type 0
CallerOrder = (base : Store) →
    (f : ℕ) (journal : Journals) (schedule : List Scheduled) → Merges base f journal schedule →
    (t u : Receipt) → Agrees base f journal t → Agrees base f journal u → u.stamp ≤ t.seen →
    let h = history_of (command_at base f journal) schedule in
    Has h t.instance → Has h u.instance → place h u.instance < place h t.instance

-- What a world plays.

-- What a world plays is a run.
abbrev pub PlayedIsARun : Type 0
PlayedIsARun = (base : Store) → (f : ℕ) (schedule : List Scheduled) → ArePlayed f (opening base) [] schedule → IsRun f (opening base) (acts_of schedule)

-- The journals of what a world plays, where they are numbered and clocked, are local runs that match.
abbrev pub PlayedMatch : Type 0
PlayedMatch = (base : Store) (base_stamp : ℕ → ℕ) →
    (f : ℕ) (journal : Journals) (schedule : List Scheduled) → ArePlayed f (opening base) [] schedule → ((r : ℕ) → of r schedule ≡ journal r) →
    ((r : ℕ) → AreNumbered 1 0 (journal r)) → ((r : ℕ) → AreClocked (base_stamp r) (journal r)) → AreLocalRuns base f journal × IsMatched journal

-- The frames of what a world plays, in order of sending, are what the world has sent.
abbrev pub PlayedSends : Type 0
PlayedSends = (base : Store) → (f : ℕ) (schedule : List Scheduled) → ArePlayed f (opening base) [] schedule → messages_of (frames_of schedule) ≡ (ends f (opening base) (acts_of schedule)).sent

-- The journals of what a world plays are accepted, with receipts of its replicas' own commands.
abbrev pub PlayedAccepted : Type 0
PlayedAccepted = (base : Store) (base_stamp : ℕ → ℕ) →
    (f : ℕ) (journal : Journals) (schedule : List Scheduled) → ArePlayed f (opening base) [] schedule → ((r : ℕ) → of r schedule ≡ journal r) →
    ((r : ℕ) → AreNumbered 1 0 (journal r)) → ((r : ℕ) → AreClocked (base_stamp r) (journal r)) →
    (receipts : List Receipt) → AreOwn base f journal receipts → IsAccepted base f journal receipts

-- Proposals.

-- the entry takes the least free instance, sends at least one frame, and each frame that it sends is about that instance
pub record Takes (me : ℕ) (s : State) (e : Entry) : Type 0 where
  pub number : ℕ
  pub free : free_number s.records me ≡ Some number
  pub frame : Frame
  pub first : slice_get e.out 0 ≡ Some frame
  pub about : (m : Frame) → In m e.out → instance_of_message m.sent.message ≡ instance_of me (number + 1)

-- What a proposal sends says which instance it takes.
abbrev pub ProposalsName : Type 0
ProposalsName =
    (f me : ℕ) (s : State) (e : Entry) (client request seen : ℕ) (spared : Option ℕ) (c : Command) → 0 < f → e.event ≡ Propose client request c seen spared → IsEntry f me s e → Takes me s e

-- A replica proposes one command at most as an instance.
abbrev pub OneProposal : Type 0
OneProposal = (base : Store) →
    (f me : ℕ) (es : List Entry) → AreSteps f me (fresh_state base) es → (i client request other_client other_request : ℕ) →
    (p : Proposes base f me es i client request) (q : Proposes base f me es i other_client other_request) → p.proposal ≡ q.proposal

-- The entry that proposes a command as an instance is the one whose first frame is about it.
abbrev pub ProposalsReport : Type 0
ProposalsReport = (base : Store) →
    (f me : ℕ) (es : List Entry) → 0 < f → AreSteps f me (fresh_state base) es → (i client request : ℕ) →
    ((p : Proposes base f me es i client request) → ReportsOf p.proposal i client request)
    × ((e : Entry) → In e es → ReportsOf e i client request → (p : Proposes base f me es i client request) × (p.proposal ≡ e))

-- Journals and receipts that grow.

-- A local run with one step more, numbered next, with a greater stamp and its frames marked, is a local run.
abbrev pub LocalRunsGrow : Type 0
LocalRunsGrow = (base : Store) →
    (f me : ℕ) (es : List Entry) (e : Entry) → IsLocalRun base f me es → IsEntry f me (left f me (fresh_state base) es) e →
    e.number ≡ length es + 1 → last_stamp es < e.stamp → AreMarked e 0 e.out → IsLocalRun base f me (es ++ (e ∷ []))

-- (`since` is the stamp at which a replica's clock begins: 0 in the first generation, and in later ones that of the entry that closed the map with which it opens.)
-- A clocked journal with one entry more, stamped one more than the greatest stamp that was known, is clocked.
abbrev pub ClocksGrow : Type 0
ClocksGrow = (base_stamp : ℕ) (es : List Entry) (e : Entry) → AreClocked base_stamp es → e.stamp ≡ 1 + max (stamp_after base_stamp es) (heard e.event) → AreClocked base_stamp (es ++ (e ∷ []))

-- Clocks that begin at a stamp stay above it.
abbrev pub ClocksStayAbove : Type 0
ClocksStayAbove = (base_stamp : ℕ) (es : List Entry) (e : Entry) → AreClocked base_stamp es → In e es → base_stamp < e.stamp

-- What a world plays goes on with what is played in the world that it leaves.
abbrev pub PlayedGrows : Type 0
PlayedGrows = (base : Store) →
    (f : ℕ) (schedule : List Scheduled) (a : Scheduled) → ArePlayed f (opening base) [] schedule → Plays f (ends f (opening base) (acts_of schedule)) (frames_of schedule) a →
    ArePlayed f (opening base) [] (schedule ++ (a ∷ []))

-- What was asked in entries and then in more is what was asked in the ones, and then in the others.
abbrev pub AskedGrows : Type 0
AskedGrows = (es more : List Entry) → asked_in (es ++ more) ≡ asked_in es ++ asked_in more

-- the frame names its sender, its entry there with that entry's stamp, and its place among the entry's frames
pub record NamesOrigin (r : ℕ) (e : Entry) (m : Frame) : Type 0 where
  pub sender : m.sent.from ≡ r
  pub number : m.entry ≡ e.number
  pub stamp : m.stamp ≡ e.stamp
  pub place : slice_get e.out m.place ≡ Some m

-- A frame out of an entry of a local run names where it stands, and so was sent.
abbrev pub FramesWereSent : Type 0
FramesWereSent = (base : Store) →
    (f : ℕ) (journal : Journals) (r : ℕ) (e : Entry) (m : Frame) → IsLocalRun base f r (journal r) → In e (journal r) → In m e.out → NamesOrigin r e m × WasSent journal m

-- What was sent stays so while journals grow.
abbrev pub SentStays : Type 0
SentStays = (journal more : Journals) (m : Frame) → WasSent journal m → WasSent (λ r. journal r ++ more r) m

-- A replica's own receipt stays one while its journal grows.
abbrev pub OwnStays : Type 0
OwnStays = (base : Store) → (f me : ℕ) (es more : List Entry) (t : Receipt) → IsOwn base f me es t → IsOwn base f me (es ++ more) t

-- What the audit decides, and by what.

-- Receipts of a replica's own commands agree with clocked journals.
abbrev pub OwnReceiptsAgree : Type 0
OwnReceiptsAgree = (base : Store) (base_stamp : ℕ → ℕ) (f : ℕ) (journal : Journals) → ((r : ℕ) → AreClocked (base_stamp r) (journal r)) → (r : ℕ) (t : Receipt) → IsOwn base f r (journal r) t → Agrees base f journal t

-- Clocked journals match where each handled frame was sent.
abbrev pub ClockedMatch : Type 0
ClockedMatch =
    (base_stamp : ℕ → ℕ) (journal : Journals) → ((r : ℕ) → AreClocked (base_stamp r) (journal r)) → ((r : ℕ) (e : Entry) (m : Frame) → In e (journal r) → e.event ≡ Handle m → WasSent journal m) →
    IsMatched journal

-- Clocked journals where each handled frame was sent are accepted, with receipts of which each is some replica's own.
abbrev pub ClockedAccepted : Type 0
ClockedAccepted = (base : Store) (base_stamp : ℕ → ℕ) →
    (f : ℕ) (journal : Journals) → ((r : ℕ) → AreClocked (base_stamp r) (journal r)) → ((r : ℕ) (e : Entry) (m : Frame) → In e (journal r) → e.event ≡ Handle m → WasSent journal m) →
    (receipts : List Receipt) → AreOwn base f journal receipts → IsAccepted base f journal receipts

-- What is accepted has no fault, and there is one first fault at most.
pub record OneFault (base : Store) (f : ℕ) (journal : Journals) (receipts : List Receipt) : Type 0 where
  pub none : IsAccepted base f journal receipts → (x : Fault) → ¬ IsFault base f journal receipts x
  pub one : (x y : Fault) → IsFault base f journal receipts x → IsFault base f journal receipts y → x ≡ y

abbrev pub FaultsAreFirst : Type 0
FaultsAreFirst = (base : Store) → (f : ℕ) (journal : Journals) (receipts : List Receipt) → OneFault base f journal receipts

-- The n-th entry, from 1, has number n.
abbrev pub NumbersArePlaces : Type 0
NumbersArePlaces = (es : List Entry) → AreNumbered 1 0 es → (k : ℕ) (e : Entry) → (slice_get es k ≡ Some e) ↔ (In e es × (e.number ≡ k + 1))

-- A frame was sent where it stands at the place that it names, in the entry at its number's place.
abbrev pub SentByPlace : Type 0
SentByPlace =
    (journal : Journals) (m : Frame) → AreNumbered 1 0 (journal m.sent.from) →
    WasSent journal m ↔ ((k : ℕ) × (e : Entry) × (m.entry ≡ k + 1) × (slice_get (journal m.sent.from) k ≡ Some e) × (slice_get e.out m.place ≡ Some m))

-- Some frame was sent there where that place of that entry has one.
abbrev pub OriginByPlace : Type 0
OriginByPlace =
    (journal : Journals) (m : Frame) → AreNumbered 1 0 (journal m.sent.from) →
    HasOrigin journal m ↔ ((k : ℕ) × (e : Entry) × (n : Frame) × (m.entry ≡ k + 1) × (slice_get (journal m.sent.from) k ≡ Some e) × (slice_get e.out m.place ≡ Some n))

-- An execution is that of the entry at its number's place.
abbrev pub DoneByPlace : Type 0
DoneByPlace =
    (es : List Entry) → AreNumbered 1 0 es → (number stamp i : ℕ) (answer : Answer) →
    HasDone es number stamp i answer ↔ ((k : ℕ) × (e : Entry) × (number ≡ k + 1) × (slice_get es k ≡ Some e) × (e.stamp ≡ stamp) × In (i, answer) e.done)

-- A known receipt agrees where any proposal of its instance has a greater stamp than the client had seen.
abbrev pub AgreesByStamp : Type 0
AgreesByStamp = (base : Store) →
    (f : ℕ) (journal : Journals) → AreLocalRuns base f journal → (t : Receipt) → IsKnown base f journal t → (client request : ℕ)
    (p : Proposes base f (leader_of t.instance) (journal (leader_of t.instance)) t.instance client request) → Agrees base f journal t ↔ (t.seen < p.proposal.stamp)

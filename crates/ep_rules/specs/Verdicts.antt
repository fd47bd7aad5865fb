-- What journals say: what they commit, the history that they make, and which receipts agree with them.
use Rattle.std.specs.Prelude.{◌≡◌, ◌⊎◌, ◌↔◌, ℕ, zero, suc, ◌+◌, ◌<◌, true, false, cond, List, [], ◌∷◌, ◌++◌, Option, Some, None, slice_get, filter, map, slice_index_or as get_or}
use Rattle.ep_base.specs.Deps.{IsRising}
use Rattle.ep_base.specs.Instances.{instance_of, leader_of}
use Rattle.ep_base.specs.Messages.{instance_of_message}
use Rattle.ep_base.specs.Quorums.{size}
use Rattle.ep_base.specs.Sameness.{is_noop}
use Rattle.ep_base.specs.Commands.{Command}
use Rattle.ep_base.specs.declared.decree.Decree.{Decree}
use Rattle.ep_base.specs.declared.reply.Reply.TheVariants.{Absent}
use Rattle.ep_base.specs.declared.reply.Answer.{Answer}
use Rattle.ep_base.specs.declared.reply.Answer.TheVariants.{Lost, Replied}
use Rattle.ep_base.specs.Places.{place, Has}
use Rattle.ep_rules.specs.History.{is_new}
use Rattle.ep_rules.specs.OneMap.{replies, Store}
use Rattle.ep_rules.specs.States.{fresh_state, free_number, committed_in, command_of}
use Rattle.ep_rules.specs.Steps.{Propose, Frame, order_of}
use Rattle.ep_rules.specs.Worlds.{In}
use Rattle.ep_rules.specs.Journals.{Entry, left, Journals, Scheduled}
use Rattle.ep_rules.specs.declared.receipt.Receipt.{Receipt}

-- What is committed.

-- what r's journal commits in an instance
abbrev pub committed_by : (base : Store) → ℕ → Journals → ℕ → ℕ → Option Decree
committed_by base f journal r i = committed_in (left f r (fresh_state base) (journal r)).records i

abbrev pub or_else : Option Decree → Option Decree → Option Decree
or_else None other = other
or_else (Some x) other = Some x

-- what the least replica below n that commits there commits
abbrev pub agreed_below : (base : Store) → ℕ → ℕ → Journals → ℕ → Option Decree
agreed_below base zero f journal i = None
agreed_below base (suc n) f journal i = or_else (agreed_below base n f journal i) (committed_by base f journal n i)

-- what the journals commit in an instance: all that commit there commit the same
abbrev pub agreed : (base : Store) → ℕ → Journals → ℕ → Option Decree
agreed base f journal i = agreed_below base (size f) f journal i

-- the command that they commit there
abbrev pub command_at : (base : Store) → ℕ → Journals → ℕ → Command
command_at base f journal i = command_of (agreed base f journal i)

abbrev pub instances_of : List (ℕ × Decree) → List ℕ
instances_of [] = []
instances_of (e ∷ es) = e.0 ∷ instances_of es

-- all that the journals commit, in rising order of instances
pub record IsTable (base : Store) (f : ℕ) (journal : Journals) (table : List (ℕ × Decree)) : Type 0 where
  pub rises : IsRising (instances_of table)
  pub holds : (i : ℕ) (x : Decree) → In (i, x) table ↔ (agreed base f journal i ≡ Some x)

-- The history.

-- each executed instance once, in the order of the first executions, after those seen
abbrev pub merged_of : List ℕ → List Scheduled → List ℕ
merged_of seen [] = seen
merged_of seen (a ∷ schedule) = merged_of (seen ++ filter (is_new seen) (order_of a.entry.done)) schedule

-- the instances of the history: those that are no no-ops
abbrev pub history_of : (ℕ → Command) → List Scheduled → List ℕ
history_of c schedule = filter (λ i. cond (is_noop (c i)) false true) (merged_of [] schedule)

-- a no-op's answer is Lost; any other one is one map's reply to the history, at the instance's place there
abbrev pub IsReply : (base : Store) → (ℕ → Command) → List ℕ → ℕ → Answer → Type 0
IsReply base c h i x = ((is_noop (c i) ≡ true) × (x ≡ Lost)) ⊎ (Has h i × (x ≡ Replied (get_or (replies base (map c h)) (place h i) Absent)))

-- Receipts.

-- the entries of a replica propose a command as instance i, the least one that is free, for this client and request
pub record Proposes (base : Store) (f me : ℕ) (es : List Entry) (i client request : ℕ) : Type 0 where
  pub before : List Entry
  pub proposal : Entry
  pub rest : List Entry
  pub split : before ++ (proposal ∷ rest) ≡ es
  pub command : Command
  pub seen : ℕ
  pub spared : Option ℕ
  pub event : proposal.event ≡ Propose client request command seen spared
  pub number : ℕ
  pub free : free_number (left f me (fresh_state base) before).records me ≡ Some number
  pub instance : instance_of me (number + 1) ≡ i

-- the entry is a proposal for this client and request, and the first frame that it sends is about instance i
pub record ReportsOf (e : Entry) (i client request : ℕ) : Type 0 where
  pub command : Command
  pub seen : ℕ
  pub spared : Option ℕ
  pub event : e.event ≡ Propose client request command seen spared
  pub frame : Frame
  pub first : slice_get e.out 0 ≡ Some frame
  pub about : instance_of_message frame.sent.message ≡ i

-- the entry of this number has this stamp, and executes the instance with this answer
pub record HasDone (es : List Entry) (number stamp i : ℕ) (answer : Answer) : Type 0 where
  pub entry : Entry
  pub stands : In entry es
  pub is_number : entry.number ≡ number
  pub is_stamp : entry.stamp ≡ stamp
  pub done : In (i, answer) entry.done

-- the instance's leader proposed it for this client and request, and the replica's entry executed it
pub record IsKnown (base : Store) (f : ℕ) (journal : Journals) (t : Receipt) : Type 0 where
  pub proposed : Proposes base f (leader_of t.instance) (journal (leader_of t.instance)) t.instance t.client t.request
  pub executed : HasDone (journal t.replica) t.entry t.stamp t.instance t.answer

-- the receipt agrees with the journals: its proposal has a greater stamp than the client had seen
pub record Agrees (base : Store) (f : ℕ) (journal : Journals) (t : Receipt) : Type 0 where
  pub known : IsKnown base f journal t
  pub later : t.seen < known.proposed.proposal.stamp

-- the receipt is of a command that the replica itself proposed and executed
pub record IsOwn (base : Store) (f me : ℕ) (es : List Entry) (t : Receipt) : Type 0 where
  pub replica : t.replica ≡ me
  pub leader : leader_of t.instance ≡ me
  pub proposed : Proposes base f me es t.instance t.client t.request
  pub seen : proposed.seen ≡ t.seen
  pub executed : HasDone es t.entry t.stamp t.instance t.answer

-- each receipt is some replica's own
abbrev pub AreOwn : (base : Store) → ℕ → Journals → List Receipt → Type 0
AreOwn base f journal receipts = (t : Receipt) → In t receipts → (r : ℕ) × IsOwn base f r (journal r) t

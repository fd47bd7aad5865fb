-- tools/generate writes this file, from crates/ep_rules/specs/Steps.antt.
-- The local step of a replica: its events, their refusals in order, what they change, send and execute.
use Rattle.std.specs.Prelude.{◌≡◌, ◌⊎◌, ℕ, ◌+◌, Bool, true, ◌&&◌, not, eqb, ltb, cond, List, [], ◌∷◌, ◌++◌, Option, Some, None, Result, Ok, Err}
use Rattle.ep_base.specs.Ballots.{owner_of}
use Rattle.ep_base.specs.Instances.{instance_of, leader_of}
use Rattle.ep_base.specs.Messages.{instance_of_message}
use Rattle.ep_base.specs.Quorums.{size, spared, may_spare}
use Rattle.ep_base.specs.Sameness.{is_noop}
use Rattle.ep_base.specs.Commands.{Command}
use Rattle.ep_base.specs.declared.message.Message.{Message}
use Rattle.ep_base.specs.declared.message.Message.TheVariants.{PreAccept, PreAcceptOk, Accept, AcceptOk, Commit, Prepare, PrepareOk, Nack}
use Rattle.ep_base.specs.declared.reply.Answer.{Answer}
use Rattle.ep_base.specs.declared.vote.Vote.{Vote}
use Rattle.ep_rules.specs.Cells.{Change, nothing, Refusal, OutOfRange, NotMine, SpaceFull, NotCommitted}
use Rattle.ep_laws.specs.Rows.InterferenceSet.{interference}
use Rattle.ep_laws.specs.Rows.Maps.{get}
use Rattle.ep_laws.specs.Rows.OneMap.{answers_of, after_all}
use Rattle.ep_rules.specs.Order.{IsPlan, IsBlocked}
use Rattle.ep_rules.specs.Phases.{Outcome, propose, give_up, on_pre_accept, on_pre_accept_ok, on_accept, on_accept_ok, on_commit}
use Rattle.ep_rules.specs.Recovery.{recover, on_prepare, on_prepare_ok, on_nack}
use Rattle.ep_laws.specs.Rows.States.{State, cell_in, record_in, changed, free_number, graph_in, command_in}

-- a message, with its sender and its receiver
pub record Sent : Type 0 where
  pub from : ℕ
  pub to : ℕ
  pub message : Message

-- a message as it was sent: by which of its sender's journal entries, at which place among those that the entry sends, with which stamp
pub record Frame : Type 0 where
  pub sent : Sent
  pub entry : ℕ
  pub place : ℕ
  pub stamp : ℕ

pub data Event : Type 0 where
  -- a client's request; `seen` is the greatest stamp that the client knows of, `named` the replica to be spared, the usual one if there is none
  Propose : (client request : ℕ) → (command : Command) → (seen : ℕ) → (named : Option ℕ) → Event
  -- a message; the step looks at it alone, and not at where it comes from
  Handle : (frame : Frame) → Event
  GiveUp : (instance : ℕ) → Event
  Recover : (instance : ℕ) → Event
  Execute : (root : ℕ) → Event

-- Events that no state takes.

-- every replica that the list's instances are led by is below n
abbrev pub are_within : ℕ → List ℕ → Bool
are_within n [] = true
are_within n (i ∷ is) = ltb (leader_of i) n && are_within n is

abbrev pub vote_within : ℕ → Option Vote → Bool
vote_within n None = true
vote_within n (Some v) = ltb (owner_of v.ballot) n && are_within n v.decree.attrs.deps

-- every replica that the message names is below n
abbrev pub message_within : ℕ → Message → Bool
message_within n (PreAccept i b x) = ltb (leader_of i) n && (ltb (owner_of b) n && are_within n x.attrs.deps)
message_within n (PreAcceptOk i b a) = ltb (leader_of i) n && (ltb (owner_of b) n && are_within n a.deps)
message_within n (Accept i b x) = ltb (leader_of i) n && (ltb (owner_of b) n && are_within n x.attrs.deps)
message_within n (AcceptOk i b) = ltb (leader_of i) n && ltb (owner_of b) n
message_within n (Commit i x) = ltb (leader_of i) n && are_within n x.attrs.deps
message_within n (Prepare i b) = ltb (leader_of i) n && ltb (owner_of b) n
message_within n (PrepareOk i b v) = ltb (leader_of i) n && (ltb (owner_of b) n && vote_within n v)
message_within n (Nack i b p) = ltb (leader_of i) n && (ltb (owner_of b) n && ltb (owner_of p) n)

-- a client may ask for the command
abbrev pub may_ask : ℕ → ℕ → Command → Bool
may_ask client request c = not (is_noop c) && (ltb 0 client && ltb 0 request)

abbrev pub is_within : ℕ → ℕ → Event → Bool
is_within f me (Propose client request c seen named) = may_ask client request c && may_spare f me named
is_within f me (Handle m) = ltb m.sent.from (size f) && (ltb m.sent.to (size f) && message_within (size f) m.sent.message)
is_within f me (GiveUp i) = ltb (leader_of i) (size f)
is_within f me (Recover i) = ltb (leader_of i) (size f)
is_within f me (Execute i) = ltb (leader_of i) (size f)

abbrev pub is_for : ℕ → Event → Bool
is_for me (Propose client request c seen named) = true
is_for me (Handle m) = eqb m.sent.to me
is_for me (GiveUp i) = true
is_for me (Recover i) = true
is_for me (Execute i) = true

-- why no state of the replica takes the event
abbrev pub screened : ℕ → ℕ → Event → Option Refusal
screened f me e = cond (is_within f me e) (cond (is_for me e) None (Some NotMine)) (Some OutOfRange)

-- Events of the protocol.

-- what a message from this replica changes
abbrev pub handled : ℕ → ℕ → ℕ → State → Message → Outcome
handled f me from s (PreAccept i b x) = on_pre_accept i from b x (interference s.records i x.command) (record_in s i)
handled f me from s (PreAcceptOk i b a) = Ok (on_pre_accept_ok f i me from b a (record_in s i) (get s.leads i))
handled f me from s (Accept i b x) = Ok (on_accept i from b x (record_in s i))
handled f me from s (AcceptOk i b) = Ok (on_accept_ok f i me from b (record_in s i) (get s.leads i))
handled f me from s (Commit i x) = Ok (on_commit i x (record_in s i))
handled f me from s (Prepare i b) = Ok (on_prepare i from b (record_in s i))
handled f me from s (PrepareOk i b v) = on_prepare_ok f i me from b v (interference s.records i) (record_in s i) (get s.leads i)
handled f me from s (Nack i b p) = Ok (on_nack p (cell_in s i).reported)

-- the instance, and what changes there
abbrev pub at : ℕ → Outcome → Result (ℕ × Change) Refusal
at i (Ok ch) = Ok (i, ch)
at i (Err e) = Err e

abbrev pub proposed : ℕ → ℕ → ℕ → State → Command → Option ℕ → Result (ℕ × Change) Refusal
proposed f me spare s c None = Err SpaceFull
proposed f me spare s c (Some n) = let i = instance_of me (n + 1) in at i (propose f i spare c (interference s.records i c))

-- what an event changes, or why it is refused; an execution changes nothing of what the protocol knows
abbrev pub acts : ℕ → ℕ → State → Event → Result (ℕ × Change) Refusal
acts f me s (Propose client request c seen named) = proposed f me (spared f me named) s c (free_number s.records me)
acts f me s (Handle m) = at (instance_of_message m.sent.message) (handled f me m.sent.from s m.sent.message)
acts f me s (GiveUp i) = at i (give_up f i me (record_in s i) (get s.leads i))
acts f me s (Recover i) = at i (recover f i me (record_in s i) (cell_in s i).reported)
acts f me s (Execute root) = Ok (root, nothing)

-- Executions (EPaxos, section 4.3.2): an instance, with its answer.

abbrev pub order_of : List (ℕ × Answer) → List ℕ
order_of [] = []
order_of (d ∷ ds) = d.0 ∷ order_of ds

abbrev pub answers_in : List (ℕ × Answer) → List Answer
answers_in [] = []
answers_in (d ∷ ds) = d.1 ∷ answers_in ds

-- the order that the root's execution follows, with the answers of the replica's map
abbrev pub IsExecution : State → ℕ → List (ℕ × Answer) → Type 0
IsExecution s root done =
    IsPlan (graph_in s.records) s.executed root (order_of done) × (answers_in done ≡ answers_of (command_in s.records) s.store (order_of done))

-- what an event executes
abbrev pub Executes : State → Event → List (ℕ × Answer) → Type 0
Executes s (Propose client request c seen named) done = done ≡ []
Executes s (Handle m) done = done ≡ []
Executes s (GiveUp i) done = done ≡ []
Executes s (Recover i) done = done ≡ []
Executes s (Execute root) done = IsExecution s root done

-- The step.

abbrev pub changed_by : State → Result (ℕ × Change) Refusal → State
changed_by s (Ok p) = changed s p.0 p.1
changed_by s (Err e) = s

-- the state after an event that executed these
abbrev pub leaves : ℕ → ℕ → State → Event → List (ℕ × Answer) → State
leaves f me s e done = record (changed_by s (acts f me s e)) {
  executed = s.executed ++ order_of done;
  store = after_all (command_in s.records) s.store (order_of done);
}

abbrev pub sent_from : ℕ → List (ℕ × Message) → List Sent
sent_from me [] = []
sent_from me (m ∷ ms) = record { from = me; to = m.0; message = m.1 } ∷ sent_from me ms

abbrev pub sent_by : ℕ → Result (ℕ × Change) Refusal → List Sent
sent_by me (Ok p) = sent_from me p.1.out
sent_by me (Err e) = []

-- what an event sends
abbrev pub sends : ℕ → ℕ → State → Event → List Sent
sends f me s e = sent_by me (acts f me s e)

abbrev pub IsTaken : Result (ℕ × Change) Refusal → Type 0
IsTaken (Ok p) = Unit {0}
IsTaken (Err e) = ⊥

-- the event is taken, and executes these
pub record IsStep (f me : ℕ) (s : State) (e : Event) (done : List (ℕ × Answer)) : Type 0 where
  pub unscreened : screened f me e ≡ None
  pub taken : IsTaken (acts f me s e)
  pub executes : Executes s e done

-- a root that waits for an instance is refused, with the least one
abbrev pub Waits : State → Event → Refusal → Type 0
Waits s (Propose client request c seen named) why = ⊥
Waits s (Handle m) why = ⊥
Waits s (GiveUp i) why = ⊥
Waits s (Recover i) why = ⊥
Waits s (Execute root) why = (i : ℕ) × (why ≡ NotCommitted i) × IsBlocked (graph_in s.records) s.executed root i

-- the event is refused, for this reason
abbrev pub Refuses : ℕ → ℕ → State → Event → Refusal → Type 0
Refuses f me s e why = (screened f me e ≡ Some why) ⊎ ((screened f me e ≡ None) × ((acts f me s e ≡ Err why) ⊎ Waits s e why))

-- What one replica knows of one instance, and what a step changes there.
use Rattle.std.specs.Prelude.{ℕ, Bool, true, false, ◌&&◌, ◌||◌, eqb, List, [], ◌∷◌, Option, Some, None}
use Rattle.ep_base.specs.Instances.{leader_of}
use Rattle.ep_base.specs.declared.decree.Decree.{Decree}
use Rattle.ep_base.specs.declared.message.Message.{Message}
use Rattle.ep_base.specs.declared.vote.VoteStatus.{VoteStatus}
use Rattle.ep_base.specs.declared.vote.VoteStatus.TheVariants.{PreAccepted, Accepted, Committed}
use Rattle.ep_base.specs.declared.vote.Vote.{Vote}
use Rattle.ep_rules.specs.declared.led_instance.LedInstance.{LedInstance}
use Rattle.ep_rules.specs.declared.record.Record.{Record}

-- an instance that nothing is known of: the default ballot is promised, and there is no vote
abbrev pub fresh_record : ℕ → Record
fresh_record i = record { promised = leader_of i; vote = None }

abbrev pub record_or_fresh : ℕ → Option Record → Record
record_or_fresh i None = fresh_record i
record_or_fresh i (Some r) = r

-- Votes.

abbrev pub is_preaccept : VoteStatus → Bool
is_preaccept PreAccepted = true
is_preaccept Accepted = false
is_preaccept Committed = false

abbrev pub is_accept : VoteStatus → Bool
is_accept PreAccepted = false
is_accept Accepted = true
is_accept Committed = false

abbrev pub is_commit : VoteStatus → Bool
is_commit PreAccepted = false
is_commit Accepted = false
is_commit Committed = true

-- the ballot of the last vote: the default one where there is none
abbrev pub voted_ballot : ℕ → Option Vote → ℕ
voted_ballot i None = leader_of i
voted_ballot i (Some v) = v.ballot

abbrev pub is_committed : Option Vote → Bool
is_committed None = false
is_committed (Some v) = is_commit v.status

-- committed, or voted at b
abbrev pub is_done_at : ℕ → Option Vote → Bool
is_done_at b None = false
is_done_at b (Some v) = is_commit v.status || eqb v.ballot b

-- committed, or accepted at b
abbrev pub is_settled_at : ℕ → Option Vote → Bool
is_settled_at b None = false
is_settled_at b (Some v) = is_commit v.status || (is_accept v.status && eqb v.ballot b)

-- what is committed, if something is
abbrev pub committed_at : VoteStatus → Decree → Option Decree
committed_at PreAccepted x = None
committed_at Accepted x = None
committed_at Committed x = Some x

abbrev pub committed_decree : Option Vote → Option Decree
committed_decree None = None
committed_decree (Some v) = committed_at v.status v.decree

-- Changes.

-- the new record, what is led from now on, and the counter that a Nack named, each none where it stays as it was; and what is sent, with its receivers
pub record Change : Type 0 where
  pub entry : Option Record
  pub led : Option (Option LedInstance)
  pub reported : Option ℕ
  pub out : List (ℕ × Message)

abbrev pub nothing : Change
nothing = record { entry = None; led = None; reported = None; out = [] }

-- nothing changes, and this is answered
abbrev pub answered : ℕ → Message → Change
answered from m = record { entry = None; led = None; reported = None; out = (from, m) ∷ [] }

-- this is recorded and answered
abbrev pub recorded : Record → ℕ → Message → Change
recorded r from m = record { entry = Some r; led = None; reported = None; out = (from, m) ∷ [] }

-- the answers are kept
abbrev pub kept : LedInstance → Change
kept l = record { entry = None; led = Some (Some l); reported = None; out = [] }

-- the record after a vote at b
abbrev pub voted : ℕ → VoteStatus → Decree → Record
voted b s x = record { promised = b; vote = Some (record { status = s; ballot = b; decree = x }) }

-- Why an event is refused.
pub data Refusal : Type 0 where
  OutOfRange : Refusal
  NotMine : Refusal
  SpaceFull : Refusal
  SeqExhausted : Refusal
  NotLeading : Refusal
  TooFewAnswers : Refusal
  AlreadyCommitted : Refusal
  BallotsExhausted : Refusal
  NotCommitted : (instance : ℕ) → Refusal

-- what one replica knows of one instance: its record, what it leads, and the greatest counter that a Nack named
pub record Cell : Type 0 where
  pub entry : Option Record
  pub led : Option LedInstance
  pub reported : ℕ

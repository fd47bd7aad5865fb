-- What holds in every world of a run, said of one instance over a history that the run adds up.
-- A history isn't part of a world: the invariant says that there is one. l is the instance's leader.
use Rattle.std.proofs.Common.{List, is_some, ◌≡◌, ℕ, ◌*◌, ◌<◌, ◌≤◌, Bool, true, false, ◌||◌, leb, ◌≢◌, ◌⊎◌, Option, Some, None}
use Rattle.ep_base.specs.Ballots.{owner_of}
use Rattle.ep_base.specs.Instances.{leader_of}
use Rattle.ep_base.specs.Quorums.{size, is_fast}
use Rattle.ep_base.specs.Sameness.{is_noop}
use Rattle.ep_base.specs.declared.attrs.Attrs.{Attrs}
use Rattle.ep_base.specs.Commands.{Command, Noop}
use Rattle.ep_base.specs.declared.decree.Decree.{Decree}
use Rattle.ep_base.specs.declared.message.Message.{Message}
use Rattle.ep_base.specs.declared.message.Message.TheVariants.{PreAccept, PreAcceptOk, Accept, AcceptOk, Commit, Prepare, PrepareOk, Nack}
use Rattle.ep_base.specs.declared.vote.VoteStatus.{VoteStatus}
use Rattle.ep_base.specs.declared.vote.VoteStatus.TheVariants.{PreAccepted, Accepted, Committed}
use Rattle.ep_base.specs.declared.vote.Vote.{Vote}
use Rattle.ep_rules.specs.Answers.{Answers, answer}
use Rattle.ep_rules.specs.Cells.{is_committed, record_or_fresh, Cell}
use Rattle.ep_rules.specs.Counting.{count}
use Rattle.ep_rules.specs.Phases.{holds}
use Rattle.ep_rules.specs.Recovery.{answered_ballot}
use Rattle.ep_rules.specs.declared.led_instance.LedInstance.{LedInstance}
use Rattle.ep_rules.specs.declared.led_instance.LedInstance.TheVariants.{Proposing, Accepting, Preparing}
use Rattle.ep_rules.specs.declared.record.Record.{Record}
use Rattle.ep_rules.proofs.Attributes.{within}

pub record History : Type 0 where
  -- each replica's promised ballot
  pub promised : ℕ → ℕ
  -- the decree of each ballot's accept phase
  pub chosen : ℕ → Option Decree
  -- did this replica ever vote to accept at this ballot
  pub accepted : ℕ → ℕ → Bool
  -- the vote at the default ballot of each replica other than the leader
  pub early : ℕ → Option Decree
  -- what the leader proposed
  pub proposed : Option Command
  -- the replica that its proposal spares
  pub spared : Option ℕ
  -- what the leader committed on the fast path
  pub fast : Option Decree
  -- the command of each ballot's phase 1
  pub asked : ℕ → Option Command
  -- the interference set that this replica had when it voted in this ballot's phase 1 for a command other than a no-op
  pub seen : ℕ → ℕ → Option (List ℕ)

module _ (f l : ℕ) where
  -- has r voted to accept at b, or may it still
  abbrev pub can_accept : History → ℕ → ℕ → Bool
  can_accept h b r = h.accepted r b || leb (h.promised r) b

  abbrev pub CanChoose : History → ℕ → Type 0
  CanChoose h b = size f < 2 * count (size f) (can_accept h b)

  -- r is of the fast quorum of what the leader proposed, and not the leader itself
  pub record Member (h : History) (r : ℕ) : Type 0 where
    pub spared : ℕ
    pub named : h.spared ≡ Some spared
    pub asked : is_fast l spared r ≡ true

  -- all others of that fast quorum voted for y at the default ballot
  pub record AllEarly (h : History) (y : Decree) : Type 0 where
    pub spared : ℕ
    pub named : h.spared ≡ Some spared
    pub each : (r : ℕ) → r < size f → is_fast l spared r ≡ true → h.early r ≡ Some y

  -- has the fast path committed y, or may it still, whichever replica the proposal spares
  pub record CanBeFast (h : History) (y : Decree) : Type 0 where
    pub leader : (h.fast ≡ Some y) ⊎ ((h.chosen l ≡ None) × (h.promised l ≤ l))
    pub spared : ℕ
    pub named : (h.spared ≡ Some spared) ⊎ (h.spared ≡ None)
    pub members : (r : ℕ) → r < size f → is_fast l spared r ≡ true → (h.early r ≡ Some y) ⊎ (h.promised r ≤ l)

  -- below b nothing but x is or can be committed
  pub record Safe (h : History) (b : ℕ) (x : Decree) : Type 0 where
    pub below : (c : ℕ) → l ≤ c → c < b → CanChoose h c → h.chosen c ≡ Some x
    pub quick : (y : Decree) → CanBeFast h y → y ≡ x

  -- below b nothing at all
  pub record Free (h : History) (b : ℕ) : Type 0 where
    pub below : (c : ℕ) → l ≤ c → c < b → CanChoose h c → ⊥
    pub quick : (y : Decree) → CanBeFast h y → ⊥

  -- did r see an interference set at b, or may it still
  abbrev pub can_see : History → ℕ → ℕ → Bool
  can_see h b r = is_some (h.seen r b) || leb (h.promised r) b

  abbrev pub CanSee : History → ℕ → Type 0
  CanSee h b = size f < 2 * count (size f) (can_see h b)

  -- below b no f+1 replicas voted in a phase 1 for a command, nor can they
  pub record Quiet (h : History) (b : ℕ) : Type 0 where
    pub below : (c : ℕ) → l ≤ c → c < b → CanSee h c → ⊥

  -- r's interference set at b is a part of these
  abbrev pub sees : History → ℕ → List ℕ → ℕ → Bool
  sees h b deps r = holds (within deps) (h.seen r b)

  -- at some ballot the interference sets of f+1 replicas are parts of the decree's dependencies
  pub record Backed (h : History) (x : Decree) : Type 0 where
    pub ballot : ℕ
    pub from_default : l ≤ ballot
    pub many : size f < 2 * count (size f) (sees h ballot x.attrs.deps)

  pub record Seen (h : History) (r b : ℕ) (deps : List ℕ) : Type 0 where
    pub part : List ℕ
    pub is : h.seen r b ≡ Some part
    pub inside : within deps part ≡ true

  -- a vote in phase 1 of b, by the attributes that it answered
  pub record View (h : History) (r b : ℕ) (a : Attrs) : Type 0 where
    pub command : Command
    pub asked : h.asked b ≡ Some command
    pub seen : is_noop command ≡ false → Seen h r b a.deps

  pub data Decided (h : History) (x : Decree) : Type 0 where
    slowly : (b : ℕ) → (h.chosen b ≡ Some x) → (size f < 2 * count (size f) (λ r. h.accepted r b)) → Decided h x
    quickly : (h.fast ≡ Some x) → Decided h x

  abbrev pub IsValid : History → Command → Type 0
  IsValid h c = (c ≡ Noop) ⊎ (h.proposed ≡ Some c)

  pub record NoVote (h : History) (r : ℕ) : Type 0 where
    pub unaccepted : h.accepted r l ≡ false
    pub unvoted : h.early r ≡ None
    pub unseen : h.seen r l ≡ None

  pub record PreVote (h : History) (r b : ℕ) (x : Decree) : Type 0 where
    pub unaccepted : h.accepted r b ≡ false
    pub free : l < b → Free h b
    pub early : b ≡ l → r ≢ l → h.early r ≡ Some x
    pub proposed : b ≡ l → h.proposed ≡ Some x.command
    pub valid : IsValid h x.command
    pub asked : h.asked b ≡ Some x.command
    pub quiet : is_noop x.command ≡ true → Quiet h b
    pub seen : is_noop x.command ≡ false → Seen h r b x.attrs.deps

  pub record AcceptVote (h : History) (r b : ℕ) (x : Decree) : Type 0 where
    pub chosen : h.chosen b ≡ Some x
    pub accepted : h.accepted r b ≡ true

  abbrev pub IsCast : History → ℕ → VoteStatus → ℕ → Decree → Type 0
  IsCast h r PreAccepted b x = PreVote h r b x
  IsCast h r Accepted b x = AcceptVote h r b x
  IsCast h r Committed b x = Decided h x

  abbrev pub IsLast : History → ℕ → Option Vote → Type 0
  IsLast h r None = NoVote h r
  IsLast h r (Some v) = IsCast h r v.status v.ballot v.decree

  -- the ballot of the last vote: the default one where there is none
  abbrev pub ballot_at : Option Vote → ℕ
  ballot_at v = answered_ballot l (Some v)

  -- what the last vote v of r says of r's votes below b
  pub record Reported (h : History) (r b : ℕ) (v : Option Vote) : Type 0 where
    pub low : l ≤ ballot_at v
    pub gap : (c : ℕ) → ballot_at v < c → c < b → h.accepted r c ≡ false
    pub blank : (c : ℕ) → ballot_at v < c → c < b → h.seen r c ≡ None
    pub cast : IsLast h r v
    pub unfast : r ≡ l → is_committed v ≡ false → h.fast ≡ None

  -- the same, reported with a promise of b
  pub record PromisedReport (h : History) (r b : ℕ) (v : Option Vote) : Type 0 where
    pub promised : b ≤ h.promised r
    pub before : ballot_at v < b
    pub reported : Reported h r b v

  -- the last vote is of this status, at b
  abbrev pub VotedAt : VoteStatus → ℕ → Option Vote → Type 0
  VotedAt s b v = (x : Decree) × (v ≡ Some (record { status = s; ballot = b; decree = x }))

  pub record ProposingOk (h : History) (r : ℕ) (x : Record) (b s : ℕ) (answers : Answers Attrs) : Type 0 where
    pub mine : owner_of b ≡ r
    pub reached : b ≤ x.promised
    pub low : l ≤ b
    pub unchosen : h.chosen b ≡ None
    pub vote : x.promised ≡ b → is_committed x.vote ≡ false → VotedAt PreAccepted b x.vote
    pub spared : b ≡ l → h.spared ≡ Some s
    pub views : (k : ℕ) (a : Attrs) → answer answers k ≡ Some a → View h k b a
    pub each : b ≡ l → (k : ℕ) (a : Attrs) → answer answers k ≡ Some a → (c : Command) × (h.early k ≡ Some (record { command = c; attrs = a }))

  pub record AcceptingOk (h : History) (r : ℕ) (x : Record) (b : ℕ) (answers : Answers (Unit {0})) : Type 0 where
    pub mine : owner_of b ≡ r
    pub reached : b ≤ x.promised
    pub vote : x.promised ≡ b → is_committed x.vote ≡ false → VotedAt Accepted b x.vote
    pub each : (k : ℕ) (u : Unit {0}) → answer answers k ≡ Some u → h.accepted k b ≡ true

  pub record PreparingOk (h : History) (r : ℕ) (x : Record) (b : ℕ) (answers : Answers (Option Vote)) : Type 0 where
    pub mine : owner_of b ≡ r
    pub reached : b ≤ x.promised
    pub low : l < b
    pub unchosen : h.chosen b ≡ None
    pub unasked : h.asked b ≡ None
    pub unvoted : x.promised ≡ b → ballot_at x.vote < b
    pub each : (k : ℕ) (v : Option Vote) → answer answers k ≡ Some v → PromisedReport h k b v

  abbrev pub LedOk : History → ℕ → Record → Option LedInstance → Type 0
  LedOk h r x None = Unit {0}
  LedOk h r x (Some (Proposing b s answers)) = ProposingOk h r x b s answers
  LedOk h r x (Some (Accepting b answers)) = AcceptingOk h r x b answers
  LedOk h r x (Some (Preparing b answers)) = PreparingOk h r x b answers

  -- a replica's part of the history, by its record and what it leads
  pub record HeldOk (h : History) (r : ℕ) (x : Record) (led : Option LedInstance) : Type 0 where
    pub promised : h.promised r ≡ x.promised
    pub order : ballot_at x.vote ≤ x.promised
    pub vote : (b : ℕ) → Reported h r b x.vote
    pub leads : LedOk h r x led

  pub record AskOk (h : History) (to b : ℕ) (x : Decree) : Type 0 where
    pub apart : owner_of b ≢ to
    pub low : l ≤ b
    pub free : l < b → Free h b
    pub valid : IsValid h x.command
    pub asked : h.asked b ≡ Some x.command
    pub quiet : is_noop x.command ≡ true → Quiet h b
    pub origin : b ≡ l → Seen h l l x.attrs.deps
    pub first : b ≡ l → (h.proposed ≡ Some x.command) × Member h to

  -- a message that `from` sent to `to`
  abbrev pub MessageOk : History → ℕ → ℕ → Message → Type 0
  MessageOk h from to (PreAccept i b x) = AskOk h to b x
  MessageOk h from to (PreAcceptOk i b a) = (b ≡ l → (c : Command) × (h.early from ≡ Some (record { command = c; attrs = a }))) × View h from b a
  MessageOk h from to (Accept i b x) = (h.chosen b ≡ Some x) × (owner_of b ≢ to)
  MessageOk h from to (AcceptOk i b) = h.accepted from b ≡ true
  MessageOk h from to (Commit i x) = Decided h x
  MessageOk h from to (Prepare i b) = Unit {0}
  MessageOk h from to (PrepareOk i b v) = PromisedReport h from b v
  MessageOk h from to (Nack i b p) = Unit {0}

  pub record HistoryOk (h : History) : Type 0 where
    pub safe : (b : ℕ) (x : Decree) → h.chosen b ≡ Some x → Safe h b x
    pub led : (b : ℕ) (x : Decree) → h.chosen b ≡ Some x → b ≤ h.promised (owner_of b)
    pub low : (b : ℕ) (x : Decree) → h.chosen b ≡ Some x → l ≤ b
    pub valid : (b : ℕ) (x : Decree) → h.chosen b ≡ Some x → IsValid h x.command
    pub fast_early : (y : Decree) → h.fast ≡ Some y → AllEarly h y
    pub fast_proposed : (y : Decree) → h.fast ≡ Some y → h.proposed ≡ Some y.command
    pub early_fast : (r : ℕ) (x : Decree) → h.early r ≡ Some x → Member h r
    pub early_proposed : (r : ℕ) (x : Decree) → h.early r ≡ Some x → h.proposed ≡ Some x.command
    pub from_default : (r : ℕ) → l ≤ h.promised r
    pub backed : (b : ℕ) (x : Decree) → h.chosen b ≡ Some x → is_noop x.command ≡ false → Backed h x
    pub hushed : (b : ℕ) (x : Decree) → h.chosen b ≡ Some x → is_noop x.command ≡ true → Quiet h b
    pub agreed : (b : ℕ) (x : Decree) (c : Command) → h.chosen b ≡ Some x → h.asked b ≡ Some c → x.command ≡ c
    pub asked_led : (b : ℕ) (c : Command) → h.asked b ≡ Some c → (l ≤ b) × (b ≤ h.promised (owner_of b))
    pub asked_free : (b : ℕ) (c : Command) → h.asked b ≡ Some c → l < b → Free h b
    pub asked_valid : (b : ℕ) (c : Command) → h.asked b ≡ Some c → IsValid h c
    pub seen_asked : (r b : ℕ) (d : List ℕ) → h.seen r b ≡ Some d → (c : Command) × (h.asked b ≡ Some c) × (is_noop c ≡ false)
    pub proposed_real : (c : Command) → h.proposed ≡ Some c → is_noop c ≡ false
    pub early_seen : (r : ℕ) (x : Decree) → h.early r ≡ Some x → Seen h r l x.attrs.deps
    pub early_origin : (r : ℕ) (x : Decree) → h.early r ≡ Some x → Seen h l l x.attrs.deps
    pub fast_origin : (y : Decree) → h.fast ≡ Some y → Seen h l l y.attrs.deps

  -- h' is h after a step of r
  pub record Advance (r : ℕ) (h h' : History) : Type 0 where
    pub promised_up : (k : ℕ) → h.promised k ≤ h'.promised k
    pub chosen_kept : (b : ℕ) (x : Decree) → h.chosen b ≡ Some x → h'.chosen b ≡ Some x
    pub accepted_kept : (k b : ℕ) → h.accepted k b ≡ true → h'.accepted k b ≡ true
    pub accepted_new : (k b : ℕ) → h'.accepted k b ≡ true → (h.accepted k b ≡ true) ⊎ (h.promised k ≤ b)
    pub early_kept : (k : ℕ) (x : Decree) → h.early k ≡ Some x → h'.early k ≡ Some x
    pub early_new : (k : ℕ) (x : Decree) → h'.early k ≡ Some x → (h.early k ≡ Some x) ⊎ (h.promised k ≤ l)
    pub proposed_kept : (c : Command) → h.proposed ≡ Some c → h'.proposed ≡ Some c
    pub spared_kept : (s : ℕ) → h.spared ≡ Some s → h'.spared ≡ Some s
    pub fast_kept : (x : Decree) → h.fast ≡ Some x → h'.fast ≡ Some x
    pub fast_new : (x : Decree) → h'.fast ≡ Some x → (h.fast ≡ Some x) ⊎ ((h.chosen l ≡ None) × (h.promised l ≤ l))
    pub same_promised : (k : ℕ) → k ≢ r → h'.promised k ≡ h.promised k
    pub same_accepted : (k : ℕ) → k ≢ r → (b : ℕ) → h'.accepted k b ≡ h.accepted k b
    pub same_early : (k : ℕ) → k ≢ r → h'.early k ≡ h.early k
    pub same_chosen : (b : ℕ) → owner_of b ≢ r → h'.chosen b ≡ h.chosen b
    pub same_fast : r ≢ l → h'.fast ≡ h.fast
    pub same_proposed : r ≢ l → h'.proposed ≡ h.proposed
    pub same_spared : r ≢ l → h'.spared ≡ h.spared
    pub asked_kept : (b : ℕ) (c : Command) → h.asked b ≡ Some c → h'.asked b ≡ Some c
    pub seen_kept : (k b : ℕ) (d : List ℕ) → h.seen k b ≡ Some d → h'.seen k b ≡ Some d
    pub seen_new : (k b : ℕ) (d : List ℕ) → h'.seen k b ≡ Some d → (h.seen k b ≡ Some d) ⊎ (h.promised k ≤ b)
    pub same_asked : (b : ℕ) → owner_of b ≢ r → h'.asked b ≡ h.asked b
    pub same_seen : (k : ℕ) → k ≢ r → (b : ℕ) → h'.seen k b ≡ h.seen k b

-- what replica r knows of instance i
pub record CellOk (f i : ℕ) (h : History) (r : ℕ) (c : Cell) : Type 0 where
  pub held : HeldOk f (leader_of i) h r (record_or_fresh i c.entry) c.led
  pub fresh : c.entry ≡ None → r ≡ leader_of i → (h.proposed ≡ None) × (h.chosen (leader_of i) ≡ None) × (h.asked (leader_of i) ≡ None) × (h.spared ≡ None)

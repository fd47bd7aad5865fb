-- What an event changes, as the code holds it before it is put in place: it names what stays, and what is sent of it, in place of copying it.
use Rattle.std.specs.Prelude.{ℕ, Bool, true, false, cond, List, [], ◌∷◌, Option, Some, None}
use Rattle.ep_base.specs.Attributes.{join}
use Rattle.ep_base.specs.Instances.{leader_of}
use Rattle.ep_base.specs.Quorums.{size, is_fast}
use Rattle.ep_base.specs.declared.attrs.Attrs.{Attrs}
use Rattle.ep_base.specs.declared.decree.Decree.{Decree}
use Rattle.ep_base.specs.declared.message.Message.{Message}
use Rattle.ep_base.specs.declared.message.Message.TheVariants as message
use Rattle.ep_base.specs.declared.vote.VoteStatus.TheVariants.{PreAccepted, Accepted}
use Rattle.ep_base.specs.declared.vote.Vote.{Vote}
use Rattle.ep_rules.specs.Answers.{with_answer}
use Rattle.ep_rules.specs.Cells as rules
use Rattle.ep_rules.specs.Cells.{voted}
use Rattle.ep_rules.specs.Counting.{to_those, is_other}
use Rattle.ep_rules.specs.Phases.{Outcome, limited, with_attrs, with_commit}
use Rattle.ep_rules.specs.declared.led_instance.LedInstance.{LedInstance}
use Rattle.ep_rules.specs.declared.led_instance.LedInstance.TheVariants.{Proposing, Accepting, Preparing}
use Rattle.ep_rules.specs.declared.record.Record.{Record}
use Rattle.ep_space.specs.Held.{Places, HasPlace}
use Rattle.ep_space.specs.Records.{Records, IsReady}
use Rattle.ep_space.specs.Settled.{settled}
use Rattle.ep_phase.specs.InstanceViews.{InstanceView, record_of}
use Rattle.ep_phase.specs.declared.change.Change.{Change}
use Rattle.ep_phase.specs.declared.lead_change.LeadChange.{LeadChange}
use Rattle.ep_phase.specs.declared.lead_change.LeadChange.TheVariants as leading
use Rattle.ep_phase.specs.declared.recorded.Recorded.{Recorded}
use Rattle.ep_phase.specs.declared.recorded.Recorded.TheVariants as recorded
use Rattle.ep_phase.specs.declared.receivers.Receivers.{Receivers}
use Rattle.ep_phase.specs.declared.receivers.Receivers.TheVariants.{One, FastQuorum, Others}
use Rattle.ep_phase.specs.declared.sending.Sending.{Sending}
use Rattle.ep_phase.specs.declared.sending.What.{What}
use Rattle.ep_phase.specs.declared.sending.What.TheVariants as what

-- Records.

-- what this makes of i's record, where r is the one before; none where it stays
abbrev pub entry_of : ℕ → Record → Recorded → Option Record
entry_of i r recorded.Stays = None
entry_of i r (recorded.Joins b) = Some (record { promised = b; vote = r.vote })
entry_of i r (recorded.PreAccepts b x) = Some (voted b PreAccepted x)
entry_of i r (recorded.Accepts b x) = Some (voted b Accepted x)
entry_of i r (recorded.Commits x) = Some (with_commit i r x)
entry_of i r recorded.Settles = settled i r r.vote

-- an answer more is kept, which is all that changes then: nothing is recorded
abbrev pub adds_answer : LeadChange → Bool
adds_answer leading.Stays = false
adds_answer (leading.Leads l) = false
adds_answer (leading.PreAccepted q a) = true
adds_answer (leading.Accepted q) = true
adds_answer leading.Ends = false

-- What is led.

-- one more pre-accepted; none where what is led stays, since it isn't phase 1
abbrev pub with_pre_accepted : ℕ → Attrs → Option LedInstance → Option (Option LedInstance)
with_pre_accepted q a None = None
with_pre_accepted q a (Some (Proposing b s answers)) = Some (Some (Proposing b s (with_answer answers q a)))
with_pre_accepted q a (Some (Accepting b answers)) = None
with_pre_accepted q a (Some (Preparing b answers)) = None

-- one more accepted; none where what is led stays, since it isn't the accept phase
abbrev pub with_accepted : ℕ → Option LedInstance → Option (Option LedInstance)
with_accepted q None = None
with_accepted q (Some (Proposing b s answers)) = None
with_accepted q (Some (Accepting b answers)) = Some (Some (Accepting b (with_answer answers q tt)))
with_accepted q (Some (Preparing b answers)) = None

-- what is led then, where that was led before
abbrev pub or_as_before : Option LedInstance → Option (Option LedInstance) → Option LedInstance
or_as_before l None = l
or_as_before l (Some new) = new

-- what is led from now on, where l is what is led before; none where it stays
abbrev pub led_of : Option LedInstance → LeadChange → Option (Option LedInstance)
led_of l leading.Stays = None
led_of l (leading.Leads new) = Some (Some new)
led_of l (leading.PreAccepted q a) = with_pre_accepted q a l
led_of l (leading.Accepted q) = with_accepted q l
led_of l leading.Ends = Some None

-- What is sent.

-- a message of replica me about i to these receivers, in a cluster whose f replicas may fail
abbrev pub to_receivers : ℕ → ℕ → ℕ → Receivers → Message → List (ℕ × Message)
to_receivers f me i (One r) m = (r, m) ∷ []
to_receivers f me i (FastQuorum s) m = to_those (is_fast (leader_of i) s) (size f) m
to_receivers f me i Others m = to_those (is_other me) (size f) m

abbrev pub voted_decree : Option Vote → Option Decree
voted_decree None = None
voted_decree (Some v) = Some v.decree

-- the decree that a message is about: what is voted for, or else what was voted for last
abbrev pub decree_in : Option Vote → Recorded → Option Decree
decree_in v recorded.Stays = voted_decree v
decree_in v (recorded.Joins b) = voted_decree v
decree_in v (recorded.PreAccepts b x) = Some x
decree_in v (recorded.Accepts b x) = Some x
decree_in v (recorded.Commits x) = Some x
decree_in v recorded.Settles = voted_decree v

abbrev pub of_decree : (Decree → Message) → Option Decree → Option Message
of_decree m None = None
of_decree m (Some x) = Some (m x)

-- the message about i, where v is the last vote and x the decree; none where it has one and there is none
abbrev pub message_in : ℕ → Option Vote → Option Decree → What → Option Message
message_in i v x (what.PreAccept b) = of_decree (λ d. message.PreAccept i b d) x
message_in i v x (what.PreAcceptOk b) = of_decree (λ d. message.PreAcceptOk i b d.attrs) x
message_in i v x (what.Accept b) = of_decree (λ d. message.Accept i b d) x
message_in i v x (what.AcceptOk b) = Some (message.AcceptOk i b)
message_in i v x what.Commit = of_decree (λ d. message.Commit i d) x
message_in i v x (what.Prepare b) = Some (message.Prepare i b)
message_in i v x (what.PrepareOk b) = Some (message.PrepareOk i b v)
message_in i v x (what.Nack b p) = Some (message.Nack i b p)

abbrev pub sent_to : ℕ → ℕ → ℕ → Receivers → Option Message → List (ℕ × Message)
sent_to f me i to None = []
sent_to f me i to (Some m) = to_receivers f me i to m

abbrev pub sends_of : InstanceView → Recorded → Option Sending → List (ℕ × Message)
sends_of k e None = []
sends_of k e (Some s) = sent_to k.faults k.me k.instance s.to (message_in k.instance (record_of k).vote (decree_in (record_of k).vote e) s.what)

-- what the change sends
abbrev pub sends : InstanceView → Change → List (ℕ × Message)
sends k ch = sends_of k ch.entry ch.out

-- the new record of i, where r is the one before; none where it stays
abbrev pub new_record : ℕ → Record → Change → Option Record
new_record i r ch = cond (adds_answer ch.led) None (entry_of i r ch.entry)

-- the rule's change
abbrev pub change_of : InstanceView → Change → rules.Change
change_of k ch = record { entry = new_record k.instance (record_of k) ch; led = led_of k.led ch.led; reported = ch.reported; out = sends k ch }

-- The places that a change needs: i has one for what is written, and a vote has room in the index.

abbrev pub HasRecordPlace : Recorded → Records → ℕ → Type 0
HasRecordPlace recorded.Stays s i = Unit {0}
HasRecordPlace (recorded.Joins b) s i = HasPlace s.places i
HasRecordPlace (recorded.PreAccepts b x) s i = IsReady s i x.command
HasRecordPlace (recorded.Accepts b x) s i = IsReady s i x.command
HasRecordPlace (recorded.Commits x) s i = IsReady s i x.command
HasRecordPlace recorded.Settles s i = HasPlace s.places i

abbrev pub HasLeadPlace : LeadChange → Places → ℕ → Type 0
HasLeadPlace leading.Stays p i = Unit {0}
HasLeadPlace (leading.Leads l) p i = HasPlace p i
HasLeadPlace (leading.PreAccepted q a) p i = HasPlace p i
HasLeadPlace (leading.Accepted q) p i = HasPlace p i
HasLeadPlace leading.Ends p i = Unit {0}

abbrev pub HasReportedPlace : Option ℕ → Places → ℕ → Type 0
HasReportedPlace None p i = Unit {0}
HasReportedPlace (Some n) p i = HasPlace p i

-- A PreAccept past its tests: the command is pre-accepted with both attributes joined, and answered.
abbrev pub pre_accepted : ℕ → ℕ → ℕ → Decree → Attrs → Outcome
pre_accepted i from b x own = limited own (rules.recorded (voted b PreAccepted (with_attrs x (join x.attrs own))) from (message.PreAcceptOk i b (join x.attrs own)))

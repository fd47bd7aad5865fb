-- What messages and events are reported as.
use Rattle.std.specs.Prelude.{ℕ, List, [], ◌++◌, Option, Some, None, codes, decimal}
use Rattle.ep_base.specs.Ballots.{counter_of, owner_of}
use Rattle.ep_base.specs.Commands.{Command}
use Rattle.ep_base.specs.declared.attrs.Attrs.{Attrs}
use Rattle.ep_base.specs.declared.decree.Decree.{Decree}
use Rattle.ep_base.specs.declared.message.Message.{Message}
use Rattle.ep_base.specs.declared.message.Message.TheVariants.{PreAccept, PreAcceptOk, Accept, AcceptOk, Commit, Prepare, PrepareOk, Nack}
use Rattle.ep_base.specs.declared.vote.VoteStatus.{VoteStatus}
use Rattle.ep_base.specs.declared.vote.VoteStatus.TheVariants.{PreAccepted, Accepted, Committed}
use Rattle.ep_base.specs.declared.vote.Vote.{Vote}
use Rattle.ep_frame.specs.Meaning.{sender_at, origin_at, message_at}
use Rattle.ep_journal.specs.declared.event.Event.{Event}
use Rattle.ep_journal.specs.declared.event.Event.TheVariants.{Propose, Handle, GiveUp, Recover, Execute}
use Rattle.ep_report.specs.Parts.{instance_text, deps_text, command_text}

-- Messages.

-- its counter and the replica that leads it
abbrev pub ballot_text : ℕ → List ℕ
ballot_text b = codes "(" ++ decimal (counter_of b) ++ codes ", " ++ decimal (owner_of b) ++ codes ")"

abbrev pub attrs_text : Attrs → List ℕ
attrs_text a = codes " seq " ++ decimal a.seq ++ codes " deps " ++ deps_text a.deps

-- a command with its attributes
abbrev pub decree_text : Decree → List ℕ
decree_text x = codes " " ++ command_text x.command ++ attrs_text x.attrs

abbrev pub status_text : VoteStatus → List ℕ
status_text PreAccepted = codes "pre-accepted"
status_text Accepted = codes "accepted"
status_text Committed = codes "committed"

abbrev pub vote_text : Option Vote → List ℕ
vote_text None = codes " without a vote"
vote_text (Some v) = codes " vote " ++ status_text v.status ++ codes " at " ++ ballot_text v.ballot ++ decree_text v.decree

-- the instance that it is about, and the ballot that it is led, answered or refused at
abbrev pub about_text : ℕ → ℕ → List ℕ
about_text i b = instance_text i ++ codes " ballot " ++ ballot_text b

abbrev pub message_text : Message → List ℕ
message_text (PreAccept i b x) = codes "PreAccept " ++ about_text i b ++ decree_text x
message_text (PreAcceptOk i b a) = codes "PreAcceptOK " ++ about_text i b ++ attrs_text a
message_text (Accept i b x) = codes "Accept " ++ about_text i b ++ decree_text x
message_text (AcceptOk i b) = codes "AcceptOK " ++ about_text i b
message_text (Commit i x) = codes "Commit " ++ instance_text i ++ decree_text x
message_text (Prepare i b) = codes "Prepare " ++ about_text i b
message_text (PrepareOk i b v) = codes "PrepareOK " ++ about_text i b ++ vote_text v
message_text (Nack i b p) = codes "Nack " ++ about_text i b ++ codes " promised " ++ ballot_text p

-- which frame it is: its sender, the number of the entry that sends it, and its place among what that entry sends, from 0
abbrev pub origin_text : List ℕ → List ℕ
origin_text b = decimal (sender_at b) ++ codes ":" ++ decimal (origin_at b).entry ++ codes ":" ++ decimal (origin_at b).out

-- Events.

-- a command that is proposed, with its client's request
abbrev pub request_text : ℕ → ℕ → Command → ℕ → List ℕ
request_text client request command seen =
    codes "propose " ++ command_text command ++ codes " (client " ++ decimal client ++ codes " request " ++ decimal request ++ codes " seen " ++ decimal seen ++ codes ")"

-- the replica that a proposal names as the spared one
abbrev pub sparing_text : Option ℕ → List ℕ
sparing_text None = []
sparing_text (Some s) = codes " sparing " ++ decimal s

abbrev pub event_text : Event → List ℕ
event_text (Propose client request command seen spared) = request_text client request command seen ++ sparing_text spared
event_text (Handle b) = codes "handle " ++ origin_text b ++ codes " " ++ message_text (message_at b)
event_text (GiveUp i) = codes "give up " ++ instance_text i
event_text (Recover i) = codes "recover " ++ instance_text i
event_text (Execute i) = codes "execute " ++ instance_text i

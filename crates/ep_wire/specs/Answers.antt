-- The bytes of answers: the length of what follows, a kind, and a body.
use Rattle.std.specs.Prelude.{ℕ, ◌+◌, ◌*◌, ◌<◌, ◌^◌, Bool, cond, List, [], ◌∷◌, ◌++◌, length, Option, Some, None}
use Rattle.std.specs.List.{flat_map}
use Rattle.ep_base.specs.declared.reply.Reply.{Reply}
use Rattle.ep_base.specs.declared.reply.Reply.TheVariants.{Absent, Present, Closed, Ordered, Done, Undone}
use Rattle.ep_base.specs.declared.version.Version.{Version}
use Rattle.ep_base.specs.declared.version_kind.VersionKind.TheVariants.{V3}
use Rattle.ep_bundle.specs.Bytes.{frame_bytes, receipt_bytes, reported_bytes}
use Rattle.ep_bundle.specs.Writing.{FramesFit}
use Rattle.ep_frame.specs.Fields.{number_bytes, dep_bytes}
use Rattle.ep_frame.specs.Meaning.{instance_at, origin_at}
use Rattle.ep_journal.specs.Refusals.{code_of, names}
use Rattle.ep_journal.specs.declared.entry.Entry.{Entry}
use Rattle.ep_journal.specs.declared.event.Event.{Event}
use Rattle.ep_journal.specs.declared.event.Event.TheVariants.{Propose, Handle, GiveUp, Recover, Execute}
use Rattle.ep_journal.specs.declared.refusal.Refusal.{Refusal}
use Rattle.ep_rules.specs.declared.receipt.Receipt.{Receipt}
use Rattle.ep_rules.specs.States.{or_zero}
use Rattle.ep_wire.specs.declared.request_field.RequestField.{RequestField}
use Rattle.ep_wire.specs.declared.request_field.RequestField.TheVariants.{Kind, Client, ClientRequest, Seen, Op, KeyLength, ValueLength, Key, Value, Replica, Number, Rest, FirstLength, SecondLength, BodyLength, FirstKey, SecondKey, Body, After, Most, Spared, Count, Found}
use Rattle.ep_wire.specs.declared.lead_progress.LeadProgress.{LeadProgress}
use Rattle.ep_wire.specs.declared.lead_progress.LeadProgress.TheVariants.{Proposing, Accepting, Preparing}
use Rattle.ep_wire.specs.declared.malformed.Malformed.{Malformed}
use Rattle.ep_wire.specs.declared.node_state.NodeState.{NodeState}

-- an instance, or three zero bytes
abbrev pub instance_or_none : Option ℕ → List ℕ
instance_or_none None = 0 ∷ 0 ∷ 0 ∷ []
instance_or_none (Some i) = dep_bytes i

-- the instance that the first of these frames is about
abbrev pub first_about : List (List ℕ) → Option ℕ
first_about [] = None
first_about (b ∷ bs) = Some (instance_at b)

-- the instance that a proposal took
abbrev pub taken_as : Event → List (List ℕ) → Option ℕ
taken_as (Propose client request command seen named) frames = first_about frames
taken_as (Handle b) frames = None
taken_as (GiveUp i) frames = None
taken_as (Recover i) frames = None
taken_as (Execute i) frames = None

-- a frame, with its receiver before it
abbrev pub sent_bytes : List ℕ → List ℕ
sent_bytes b = number_bytes 1 (origin_at b).to ++ frame_bytes b

-- an entry's number, stamp and instance
abbrev pub head_bytes : Entry → List ℕ
head_bytes e = number_bytes 4 e.number ++ number_bytes 8 e.stamp ++ instance_or_none (taken_as e.event e.frames)

abbrev pub frames_bytes : List (List ℕ) → List ℕ
frames_bytes bs = number_bytes 2 (length bs) ++ flat_map sent_bytes bs

-- each as it stands in a bundle of the version
abbrev pub receipts_bytes : Version → List Receipt → List ℕ
receipts_bytes v rs = number_bytes 2 (length rs) ++ flat_map (receipt_bytes v) rs

-- an entry as it is answered: what it sends, and the receipts of what it executed
abbrev pub entry_bytes : Version → Entry → List Receipt → List ℕ
entry_bytes v e rs = head_bytes e ++ (frames_bytes e.frames ++ receipts_bytes v rs)

-- its counts fit their fields
abbrev pub Fits : List (List ℕ) → List Receipt → Type 0
Fits frames rs = FramesFit frames × (length rs < 2 ^ 16)

-- what a node took: the count of entries, and each of them
abbrev pub taken_bytes : List ℕ → List ℕ
taken_bytes body = number_bytes 4 (1 + length body) ++ number_bytes 1 1 ++ body

-- why an event was refused: the number in its name, and the instance that it names
abbrev pub refused_bytes : Refusal → List ℕ
refused_bytes r = number_bytes 4 5 ++ number_bytes 1 2 ++ number_bytes 1 (code_of r) ++ instance_or_none (names r)

abbrev pub value_bytes : Option (List ℕ) → List ℕ
value_bytes None = number_bytes 4 2 ++ number_bytes 1 3 ++ number_bytes 1 0
value_bytes (Some v) = number_bytes 4 (4 + length v) ++ number_bytes 1 3 ++ (number_bytes 1 1 ++ number_bytes 2 (length v) ++ v)

abbrev pub instance_bytes : Option ℕ → List ℕ
instance_bytes None = number_bytes 4 2 ++ number_bytes 1 4 ++ number_bytes 1 0
instance_bytes (Some i) = number_bytes 4 5 ++ number_bytes 1 4 ++ number_bytes 1 1 ++ dep_bytes i

abbrev pub phase_code : LeadProgress → ℕ
phase_code (Proposing n) = 1
phase_code (Accepting n) = 2
phase_code (Preparing n) = 3

abbrev pub answer_count : LeadProgress → ℕ
answer_count (Proposing n) = n
answer_count (Accepting n) = n
answer_count (Preparing n) = n

abbrev pub leading_bytes : Option LeadProgress → List ℕ
leading_bytes None = number_bytes 4 2 ++ number_bytes 1 5 ++ number_bytes 1 0
leading_bytes (Some l) = number_bytes 4 4 ++ number_bytes 1 5 ++ number_bytes 1 1 ++ number_bytes 1 (phase_code l) ++ number_bytes 1 (answer_count l)

abbrev pub synced_bytes : ℕ → List ℕ
synced_bytes n = number_bytes 4 5 ++ number_bytes 1 6 ++ number_bytes 4 n

-- the greatest number of an entry of another replica of which a frame was handled
abbrev pub handled_bytes : ℕ → List ℕ
handled_bytes n = number_bytes 4 5 ++ number_bytes 1 10 ++ number_bytes 4 n

-- the number of a field
abbrev pub field_code : RequestField → ℕ
field_code Kind = 1
field_code Client = 2
field_code ClientRequest = 3
field_code Seen = 4
field_code Op = 5
field_code KeyLength = 6
field_code ValueLength = 7
field_code Key = 8
field_code Value = 9
field_code Replica = 10
field_code Number = 11
field_code Rest = 12
field_code FirstLength = 13
field_code SecondLength = 14
field_code BodyLength = 15
field_code FirstKey = 16
field_code SecondKey = 17
field_code Body = 18
field_code After = 19
field_code Most = 20
field_code Spared = 21
field_code Count = 22
field_code Found = 23

abbrev pub malformed_bytes : Malformed → List ℕ
malformed_bytes m = number_bytes 4 10 ++ number_bytes 1 7 ++ number_bytes 1 (field_code m.field) ++ number_bytes 8 m.at

abbrev pub sealed_code : Bool → ℕ
sealed_code is_sealed = cond is_sealed 1 0

-- its generation, and how many entries it has
abbrev pub counts_bytes : NodeState → List ℕ
counts_bytes s = number_bytes 4 s.generation ++ number_bytes 4 s.entries

-- what says when to seal, and its stamp
abbrev pub space_bytes : NodeState → List ℕ
space_bytes s = number_bytes 2 s.used ++ number_bytes 2 s.deps ++ number_bytes 1 (sealed_code s.is_sealed) ++ number_bytes 8 s.stamp

abbrev pub state_bytes : NodeState → List ℕ
state_bytes s = number_bytes 4 22 ++ number_bytes 1 8 ++ (counts_bytes s ++ space_bytes s)

-- What there is to report.

-- instances, counted
abbrev pub instances_bytes : List ℕ → List ℕ
instances_bytes is = number_bytes 4 (length is) ++ flat_map dep_bytes is

-- Reads that write nothing.

-- what interferes
abbrev pub interfering_bytes : List ℕ → List ℕ
interfering_bytes is = number_bytes 4 (5 + 3 * length is) ++ number_bytes 1 11 ++ instances_bytes is

-- a read waits for this instance
abbrev pub waits_bytes : ℕ → List ℕ
waits_bytes i = number_bytes 4 5 ++ number_bytes 1 12 ++ number_bytes 1 2 ++ dep_bytes i

-- it is answered a value, or one of the codes that have none
abbrev pub present_bytes : List ℕ → List ℕ
present_bytes v = number_bytes 4 (4 + length v) ++ number_bytes 1 12 ++ (number_bytes 1 1 ++ number_bytes 2 (length v) ++ v)

abbrev pub plain_bytes : ℕ → List ℕ
plain_bytes code = number_bytes 4 2 ++ number_bytes 1 12 ++ number_bytes 1 code

-- what many keys had, as it stands in an answer of version 3, of whatever generation
abbrev pub reported_reply_bytes : ℕ → List (Option (List ℕ)) → List ℕ
reported_reply_bytes code os = number_bytes 4 (2 + length (reported_bytes (V3 1) os)) ++ number_bytes 1 12 ++ number_bytes 1 code ++ reported_bytes (V3 1) os

abbrev pub reply_bytes : Reply → List ℕ
reply_bytes Absent = plain_bytes 0
reply_bytes (Present v) = present_bytes v
reply_bytes Closed = plain_bytes 3
reply_bytes Ordered = plain_bytes 4
reply_bytes (Done os) = reported_reply_bytes 5 os
reply_bytes (Undone os) = reported_reply_bytes 6 os

-- receipts, counted, each as it stands in a bundle of the version
abbrev pub reported_receipts_bytes : Version → List Receipt → List ℕ
reported_receipts_bytes v rs = number_bytes 4 (length rs) ++ flat_map (receipt_bytes v) rs

-- what is led, or two zero bytes
abbrev pub led_bytes : Option LeadProgress → List ℕ
led_bytes None = 0 ∷ 0 ∷ []
led_bytes (Some l) = number_bytes 1 (phase_code l) ++ number_bytes 1 (answer_count l)

-- an open instance, the number of the first entry about it, and what is led there
abbrev pub open_bytes : ℕ → Option ℕ → Option LeadProgress → List ℕ
open_bytes i since leading = dep_bytes i ++ number_bytes 4 (or_zero since) ++ led_bytes leading

abbrev pub ready_bytes : List ℕ → List ℕ
ready_bytes body = number_bytes 4 (1 + length body) ++ number_bytes 1 9 ++ body

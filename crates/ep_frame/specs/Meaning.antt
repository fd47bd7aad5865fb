-- What the parts of a frame stand for.
use Rattle.std.specs.Prelude.{Bool, true, false, ltb, ◌&&◌, ℕ, List, Option, Some, None, ◌==◌, if◌then◌else◌, slice_range}
use Rattle.ep_base.specs.Instances.{instance_of}
use Rattle.ep_base.specs.Ballots.{ballot_of}
use Rattle.ep_base.specs.declared.attrs.Attrs.{Attrs}
use Rattle.ep_base.specs.declared.decree.Decree.{Decree}
use Rattle.ep_base.specs.Commands.{Command}
use Rattle.ep_base.specs.declared.version.Version.{Version}
use Rattle.ep_base.specs.declared.vote.Vote.{Vote}
use Rattle.ep_base.specs.declared.vote.VoteStatus.{VoteStatus}
use Rattle.ep_base.specs.declared.vote.VoteStatus.TheVariants.{PreAccepted, Accepted, Committed}
use Rattle.ep_base.specs.declared.message.Message.{Message}
use Rattle.ep_base.specs.declared.message.Message.TheVariants.{PreAccept, PreAcceptOk, Accept, AcceptOk, Commit, Prepare, PrepareOk, Nack}
use Rattle.ep_rules.specs.Steps.{are_within, message_within}
use Rattle.ep_frame.specs.declared.header.Header.{Header}
use Rattle.ep_frame.specs.declared.kind.Kind.{Kind}
use Rattle.ep_frame.specs.declared.kind.Kind.TheVariants as kind
use Rattle.ep_frame.specs.declared.origin.Origin.{Origin}
use Rattle.ep_base.specs.CommandParts.{command_in, CommandParts}
use Rattle.ep_frame.specs.Faults.{version_in, op_of, deps_place}
use Rattle.ep_frame.specs.Fields.{header_at, header_len}
use Rattle.ep_frame.specs.Spelling.{FrameParts, parts_at}

abbrev pub origin_in : Header → Origin
origin_in h = record { to = h.to; out = h.out; entry = h.entry; stamp = h.stamp }

abbrev pub instance_in : Header → ℕ
instance_in h = instance_of h.leader h.number

-- the ballot that is led, answered or refused
abbrev pub ballot_in : Header → ℕ
ballot_in h = ballot_of h.counter h.replica

-- the ballot that was voted at, or is promised
abbrev pub other_in : Header → ℕ
other_in h = ballot_of h.other_counter h.other_replica

abbrev pub attrs_of : FrameParts → Attrs
attrs_of p = record { seq = p.header.seq; deps = p.deps }

-- the parts of the command
abbrev pub command_parts_of : FrameParts → CommandParts
command_parts_of p = record { op = op_of p.header.op; first = p.key; second = p.second; body = p.body }

abbrev pub decree_of : FrameParts → Decree
decree_of p = record { command = command_in (command_parts_of p); attrs = attrs_of p }

abbrev pub status_of : ℕ → VoteStatus
status_of n = if n == 1 then PreAccepted else if n == 2 then Accepted else Committed

abbrev pub vote_of : FrameParts → Option Vote
vote_of p =
    if p.header.status == 0 then None else Some (record { status = status_of p.header.status; ballot = other_in p.header; decree = decree_of p })

abbrev pub message_of : FrameParts → Message
message_of p =
    if p.header.kind == 1 then PreAccept (instance_in p.header) (ballot_in p.header) (decree_of p)
    else if p.header.kind == 2 then PreAcceptOk (instance_in p.header) (ballot_in p.header) (attrs_of p)
    else if p.header.kind == 3 then Accept (instance_in p.header) (ballot_in p.header) (decree_of p)
    else if p.header.kind == 4 then AcceptOk (instance_in p.header) (ballot_in p.header)
    else if p.header.kind == 5 then Commit (instance_in p.header) (decree_of p)
    else if p.header.kind == 6 then Prepare (instance_in p.header) (ballot_in p.header)
    else if p.header.kind == 7 then PrepareOk (instance_in p.header) (ballot_in p.header) (vote_of p)
    else Nack (instance_in p.header) (ballot_in p.header) (other_in p.header)

-- what a frame's bytes stand for

abbrev pub version_at : List ℕ → Version
version_at b = version_in (parts_at b).header

abbrev pub sender_at : List ℕ → ℕ
sender_at b = (parts_at b).header.from

abbrev pub origin_at : List ℕ → Origin
origin_at b = origin_in (parts_at b).header

abbrev pub instance_at : List ℕ → ℕ
instance_at b = instance_in (parts_at b).header

abbrev pub message_at : List ℕ → Message
message_at b = message_of (parts_at b)

-- what a frame's bytes say of their message

abbrev pub kind_of : ℕ → Kind
kind_of n =
    if n == 1 then kind.PreAccept
    else if n == 2 then kind.PreAcceptOk
    else if n == 3 then kind.Accept
    else if n == 4 then kind.AcceptOk
    else if n == 5 then kind.Commit
    else if n == 6 then kind.Prepare
    else if n == 7 then kind.PrepareOk
    else kind.Nack

abbrev pub kind_at : List ℕ → Kind
kind_at b = kind_of (parts_at b).header.kind

abbrev pub ballot_at : List ℕ → ℕ
ballot_at b = ballot_in (parts_at b).header

abbrev pub other_at : List ℕ → ℕ
other_at b = other_in (parts_at b).header

-- the parts of the command, and the run of both its keys and its body

abbrev pub command_parts_at : List ℕ → CommandParts
command_parts_at b = command_parts_of (parts_at b)

abbrev pub run_at : List ℕ → List ℕ
run_at b = slice_range b (header_len (header_at b).version) (deps_place (header_at b))

abbrev pub command_at : List ℕ → Command
command_at b = command_in (command_parts_at b)

abbrev pub attrs_at : List ℕ → Attrs
attrs_at b = attrs_of (parts_at b)

abbrev pub decree_at : List ℕ → Decree
decree_at b = decree_of (parts_at b)

abbrev pub vote_at : List ℕ → Option Vote
vote_at b = vote_of (parts_at b)

-- the message of this kind that they spell
abbrev pub message_by : Kind → List ℕ → Message
message_by kind.PreAccept b = PreAccept (instance_at b) (ballot_at b) (decree_at b)
message_by kind.PreAcceptOk b = PreAcceptOk (instance_at b) (ballot_at b) (attrs_at b)
message_by kind.Accept b = Accept (instance_at b) (ballot_at b) (decree_at b)
message_by kind.AcceptOk b = AcceptOk (instance_at b) (ballot_at b)
message_by kind.Commit b = Commit (instance_at b) (decree_at b)
message_by kind.Prepare b = Prepare (instance_at b) (ballot_at b)
message_by kind.PrepareOk b = PrepareOk (instance_at b) (ballot_at b) (vote_at b)
message_by kind.Nack b = Nack (instance_at b) (ballot_at b) (other_at b)

-- every message of this kind has attributes
abbrev pub carries_attrs : Kind → Bool
carries_attrs kind.PreAccept = true
carries_attrs kind.PreAcceptOk = true
carries_attrs kind.Accept = true
carries_attrs kind.AcceptOk = false
carries_attrs kind.Commit = true
carries_attrs kind.Prepare = false
carries_attrs kind.PrepareOk = false
carries_attrs kind.Nack = false

-- every message of this kind has a command and attributes
abbrev pub carries_decree : Kind → Bool
carries_decree kind.PreAccept = true
carries_decree kind.PreAcceptOk = false
carries_decree kind.Accept = true
carries_decree kind.AcceptOk = false
carries_decree kind.Commit = true
carries_decree kind.Prepare = false
carries_decree kind.PrepareOk = false
carries_decree kind.Nack = false

-- its sender, its receiver and every replica that its message names are below n
abbrev pub is_within : ℕ → List ℕ → Bool
is_within n b = ltb (sender_at b) n && (ltb (origin_at b).to n && message_within n (message_at b))

-- the same by the parts: a message's frame has 0 where it has no ballot
abbrev pub parts_within : ℕ → FrameParts → Bool
parts_within n p =
    let h = p.header in
    ltb h.from n && (ltb h.to n && (ltb h.leader n && (ltb h.replica n && (ltb h.other_replica n && are_within n p.deps))))

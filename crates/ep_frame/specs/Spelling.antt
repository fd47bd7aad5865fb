-- The one spelling of each message, in each version.
use Rattle.std.specs.Prelude.{ℕ, ◌≡◌, ◌≢◌, ◌≤◌, ◌<◌, ◌^◌, List, [], ◌++◌, length, take, drop, Option, Some, None, slice_index, slice_range}
use Rattle.std.specs.List.{flat_map}
use Rattle.ep_base.specs.Instances.{leader_of, number_of, IsInstance}
use Rattle.ep_base.specs.Ballots.{counter_of, owner_of, highest_counter}
use Rattle.ep_base.specs.Deps.{IsRising, AreInstances, most_deps}
use Rattle.ep_base.specs.Generations.{HasItsGeneration}
use Rattle.ep_base.specs.Ops.{op_number}
use Rattle.ep_base.specs.CommandParts.{parts_of as command_parts, IsInRange}
use Rattle.ep_base.specs.Versions.{version_number, generation_of, CanSay}
use Rattle.ep_base.specs.Commands.{Command}
use Rattle.ep_base.specs.declared.attrs.Attrs.{Attrs}
use Rattle.ep_base.specs.declared.decree.Decree.{Decree}
use Rattle.ep_base.specs.declared.message.Message.{Message}
use Rattle.ep_base.specs.declared.message.Message.TheVariants.{PreAccept, PreAcceptOk, Accept, AcceptOk, Commit, Prepare, PrepareOk, Nack}
use Rattle.ep_base.specs.declared.version.Version.{Version}
use Rattle.ep_base.specs.declared.vote.Vote.{Vote}
use Rattle.ep_base.specs.declared.vote.VoteStatus.{VoteStatus}
use Rattle.ep_base.specs.declared.vote.VoteStatus.TheVariants.{PreAccepted, Accepted, Committed}
use Rattle.ep_frame.specs.declared.header.Header.{Header}
use Rattle.ep_frame.specs.declared.origin.Origin.{Origin}
use Rattle.ep_frame.specs.Faults.{second_place, body_place, deps_place}
use Rattle.ep_frame.specs.Fields.{header_bytes, header_at, header_len, dep_bytes, deps_in}

-- a frame's fields, and the bytes and instances after them
pub record FrameParts : Type 0 where
  pub header : Header
  pub key : List ℕ
  pub second : List ℕ
  pub body : List ℕ
  pub deps : List ℕ

abbrev pub parts_bytes : FrameParts → List ℕ
parts_bytes p = header_bytes p.header ++ p.key ++ p.second ++ p.body ++ flat_map dep_bytes p.deps

-- where the keys and the body lie

abbrev pub key_at : List ℕ → List ℕ
key_at b = slice_range b (header_len (header_at b).version) (second_place (header_at b))

abbrev pub second_key_at : List ℕ → List ℕ
second_key_at b = slice_range b (second_place (header_at b)) (body_place (header_at b))

abbrev pub body_at : List ℕ → List ℕ
body_at b = slice_range b (body_place (header_at b)) (deps_place (header_at b))

-- the parts of a frame's bytes
abbrev pub parts_at : List ℕ → FrameParts
parts_at b =
    let h = header_at b in
    record {
      header = h;
      key = take h.key_len (drop (header_len h.version) b);
      second = take h.second_len (drop (second_place h) b);
      body = take h.body_len (drop (body_place h) b);
      deps = deps_in (drop (deps_place h) b);
    }

-- a frame of this version and kind in which all that a kind may leave out is zero
abbrev pub blank : Version → ℕ → Origin → ℕ → ℕ → FrameParts
blank v from o kind i = record {
  header = record {
    magic = 0x4550;
    version = version_number v;
    kind = kind;
    from = from;
    to = o.to;
    out = o.out;
    entry = o.entry;
    stamp = o.stamp;
    leader = leader_of i;
    number = number_of i;
    counter = 0;
    replica = 0;
    status = 0;
    other_counter = 0;
    other_replica = 0;
    seq = 0;
    op = 0;
    key_len = 0;
    second_len = 0;
    count = 0;
    generation = generation_of v;
    body_len = 0;
  };
  key = [];
  second = [];
  body = [];
  deps = [];
}

abbrev pub with_ballot : ℕ → FrameParts → FrameParts
with_ballot b p = record p { header = record p.header { counter = counter_of b; replica = owner_of b } }

abbrev pub with_other : ℕ → ℕ → ℕ → FrameParts → FrameParts
with_other status counter replica p = record p { header = record p.header { status = status; other_counter = counter; other_replica = replica } }

abbrev pub with_attrs : Attrs → FrameParts → FrameParts
with_attrs a p = record p { header = record p.header { seq = a.seq; count = length a.deps }; deps = a.deps }

abbrev pub with_parts : (op : ℕ) (key second body : List ℕ) → FrameParts → FrameParts
with_parts op key second body p = record p {
  header = record p.header { op = op; key_len = length key; second_len = length second; body_len = length body };
  key = key;
  second = second;
  body = body;
}

abbrev pub with_command : Command → FrameParts → FrameParts
with_command c p = with_parts (op_number (command_parts c).op) (command_parts c).first (command_parts c).second (command_parts c).body p

abbrev pub with_decree : Decree → FrameParts → FrameParts
with_decree x p = with_attrs x.attrs (with_command x.command p)

abbrev pub status_code : VoteStatus → ℕ
status_code PreAccepted = 1
status_code Accepted = 2
status_code Committed = 3

-- without a vote the voted ballot is written as the one that the instance's leader begins with
abbrev pub with_vote : ℕ → Option Vote → FrameParts → FrameParts
with_vote i None p = with_other 0 0 (leader_of i) p
with_vote i (Some v) p = with_decree v.decree (with_other (status_code v.status) (counter_of v.ballot) (owner_of v.ballot) p)

-- the parts of the message's frame
abbrev pub parts_of : Version → ℕ → Origin → Message → FrameParts
parts_of v from o (PreAccept i b x) = with_decree x (with_ballot b (blank v from o 1 i))
parts_of v from o (PreAcceptOk i b a) = with_attrs a (with_ballot b (blank v from o 2 i))
parts_of v from o (Accept i b x) = with_decree x (with_ballot b (blank v from o 3 i))
parts_of v from o (AcceptOk i b) = with_ballot b (blank v from o 4 i)
parts_of v from o (Commit i x) = with_decree x (blank v from o 5 i)
parts_of v from o (Prepare i b) = with_ballot b (blank v from o 6 i)
parts_of v from o (PrepareOk i b x) = with_vote i x (with_ballot b (blank v from o 7 i))
parts_of v from o (Nack i refused promised) = with_other 0 (counter_of promised) (owner_of promised) (with_ballot refused (blank v from o 8 i))

-- the bytes of the message's frame
abbrev pub spelling : Version → ℕ → Origin → Message → List ℕ
spelling v from o m = parts_bytes (parts_of v from o m)

-- what has a spelling

-- the ballot of counter 0 is the leader's
pub record IsBallot (i : ℕ) (least : ℕ) (b : ℕ) : Type 0 where
  pub low : least ≤ counter_of b
  pub high : counter_of b ≤ highest_counter
  pub replica : owner_of b ≤ 6
  pub first : counter_of b ≡ 0 → owner_of b ≡ leader_of i

abbrev pub AreBytes : List ℕ → Type 0
AreBytes bs = (k : ℕ) → slice_index bs k < 256

-- a command in range, of bytes
pub record IsCommand (c : Command) : Type 0 where
  pub in_range : IsInRange c
  pub first : AreBytes (command_parts c).first
  pub second : AreBytes (command_parts c).second
  pub body : AreBytes (command_parts c).body

pub record AreAttrs (a : Attrs) : Type 0 where
  pub low : 1 ≤ a.seq
  pub high : a.seq ≤ 1000000
  pub few : length a.deps ≤ most_deps
  pub rising : IsRising a.deps
  pub instances : AreInstances a.deps

pub record IsDecree (x : Decree) : Type 0 where
  pub command : IsCommand x.command
  pub attrs : AreAttrs x.attrs

abbrev pub IsVote : ℕ → Option Vote → Type 0
IsVote i None = Unit {0}
IsVote i (Some v) = IsBallot i 0 v.ballot × IsDecree v.decree

abbrev pub IsMessage : Message → Type 0
IsMessage (PreAccept i b x) = IsInstance i × IsBallot i 0 b × IsDecree x
IsMessage (PreAcceptOk i b a) = IsInstance i × IsBallot i 0 b × AreAttrs a
IsMessage (Accept i b x) = IsInstance i × IsBallot i 0 b × IsDecree x
IsMessage (AcceptOk i b) = IsInstance i × IsBallot i 0 b
IsMessage (Commit i x) = IsInstance i × IsDecree x
IsMessage (Prepare i b) = IsInstance i × IsBallot i 1 b
IsMessage (PrepareOk i b v) = IsInstance i × IsBallot i 1 b × IsVote i v
IsMessage (Nack i refused promised) = IsInstance i × IsBallot i 0 refused × (1 ≤ counter_of promised) × (counter_of promised ≤ highest_counter) × (owner_of promised ≤ 6)

pub record IsOrigin (from : ℕ) (o : Origin) : Type 0 where
  pub sender : from ≤ 6
  pub receiver : o.to ≤ 6
  pub apart : o.to ≢ from
  pub out : o.out < 2 ^ 16
  pub entry_low : 1 ≤ o.entry
  pub entry_high : o.entry < 2 ^ 32
  pub stamp_low : 1 ≤ o.stamp
  pub stamp_high : o.stamp < 2 ^ 48

-- the bytes are the frame of version v that the sender `from` sends with this origin for the message m
pub record Spells (v : Version) (bytes : List ℕ) (from : ℕ) (o : Origin) (m : Message) : Type 0 where
  pub version : HasItsGeneration v
  pub origin : IsOrigin from o
  pub message : IsMessage m
  pub sayable : CanSay v m
  pub is : bytes ≡ spelling v from o m

-- the bytes are the frame of some message, in some version
abbrev pub IsFrame : List ℕ → Type 0
IsFrame b = (v : Version) × (from : ℕ) × (o : Origin) × (m : Message) × Spells v b from o m

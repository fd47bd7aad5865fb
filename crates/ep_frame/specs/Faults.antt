-- What is wrong with the bytes of a frame: the first fault, from left to right.
use Rattle.std.specs.Prelude.{ℕ, ◌+◌, ◌*◌, List, [], ◌∷◌, Bool, true, ◌&&◌, ◌||◌, not, ◌==◌, nat_le, nat_lt, if◌then◌else◌, length, take, drop, Result, Ok, Err, ◌≡◌}
use Rattle.ep_base.specs.Ops.{first_fits, second_fits, body_fits}
use Rattle.ep_base.specs.CommandParts.{is_twice, body_said}
use Rattle.ep_base.specs.declared.op.Op.{Op}
use Rattle.ep_base.specs.declared.op.Op.TheVariants as op
use Rattle.ep_base.specs.Instances.{leader_of, number_of, highest_number}
use Rattle.ep_base.specs.Versions.{version_of, highest_in, most_deps_in}
use Rattle.ep_base.specs.declared.version.Version.{Version}
use Rattle.ep_base.specs.declared.version_kind.VersionKind.TheVariants.{V1, V2, V3}
use Rattle.ep_frame.specs.declared.header.Header.{Header}
use Rattle.ep_frame.specs.declared.fault.FrameFault.{FrameFault}
use Rattle.ep_frame.specs.declared.fault.FrameFault.TheVariants.{Short, Magic, Version as OtherVersion, Kind, Field, Length, Order, SameKey, Body}
use Rattle.ep_frame.specs.Fields.{header_at, header_len, number_at, deps_in}

abbrev pub within : ℕ → ℕ → ℕ → Bool
within low high n = nat_le low n && nat_le n high

-- kinds 1, 2, 3 and 5, and 7 with a status
abbrev pub has_attributes : Header → Bool
has_attributes h = h.kind == 1 || h.kind == 2 || h.kind == 3 || h.kind == 5 || (h.kind == 7 && not (h.status == 0))

-- kinds 1, 3 and 5, and 7 with a status
abbrev pub has_command : Header → Bool
has_command h = h.kind == 1 || h.kind == 3 || h.kind == 5 || (h.kind == 7 && not (h.status == 0))

abbrev pub counter_allowed : Header → Bool
counter_allowed h =
    if h.kind == 5 then h.counter == 0
    else if h.kind == 6 || h.kind == 7 then within 1 60000 h.counter
    else nat_le h.counter 60000

abbrev pub replica_allowed : Header → Bool
replica_allowed h =
    if h.kind == 5 then h.replica == 0
    else if h.counter == 0 then h.replica == h.leader
    else nat_le h.replica 6

abbrev pub status_allowed : Header → Bool
status_allowed h = if h.kind == 7 then nat_le h.status 3 else h.status == 0

abbrev pub other_counter_allowed : Header → Bool
other_counter_allowed h =
    if h.kind == 7 then (if h.status == 0 then h.other_counter == 0 else nat_le h.other_counter 60000)
    else if h.kind == 8 then within 1 60000 h.other_counter
    else h.other_counter == 0

abbrev pub other_replica_allowed : Header → Bool
other_replica_allowed h =
    if h.kind == 7 then (if h.other_counter == 0 then h.other_replica == h.leader else nat_le h.other_replica 6)
    else if h.kind == 8 then nat_le h.other_replica 6
    else h.other_replica == 0

abbrev pub seq_allowed : Header → Bool
seq_allowed h = if has_attributes h then within 1 1000000 h.seq else h.seq == 0

-- version 1 has no swap, which is 5, and versions 1 and 2 have none of those from 6 on
abbrev pub highest_op : Version → ℕ
highest_op V1 = 4
highest_op V2 = 5
highest_op (V3 g) = 10

abbrev pub op_allowed : Version → Header → Bool
op_allowed v h = if has_command h then within 1 (highest_op v) h.op else h.op == 0

-- the op of this number; where there is no command, as of a no-op: no keys, and no body
abbrev pub op_of : ℕ → Op
op_of n =
    if n == 2 then op.Get
    else if n == 3 then op.Put
    else if n == 4 then op.Del
    else if n == 5 then op.Swap
    else if n == 6 then op.Cas
    else if n == 7 then op.Ask
    else if n == 8 then op.Act
    else if n == 9 then op.Seal
    else if n == 10 then op.Tx
    else op.Noop

abbrev pub key_len_allowed : Header → Bool
key_len_allowed h = first_fits (op_of h.op) h.key_len

-- what the field at 36 is: in versions 1 and 2 it is the length of a put's body too, which has at most 1,024 bytes
abbrev pub text_fits : Version → Op → (second body : ℕ) → Bool
text_fits V1 o second body = second_fits o second && nat_le body 1024
text_fits V2 o second body = second_fits o second && nat_le body 1024
text_fits (V3 g) o second body = second_fits o second

-- versions 1 and 2 have none, and it is read as 0
abbrev pub generation_fits : Version → ℕ → Bool
generation_fits V1 n = n == 0
generation_fits V2 n = n == 0
generation_fits (V3 g) n = nat_le 1 n

abbrev pub text_len_allowed : Version → Header → Bool
text_len_allowed v h = text_fits v (op_of h.op) h.second_len h.body_len

abbrev pub generation_allowed : Version → Header → Bool
generation_allowed v h = generation_fits v h.generation

abbrev pub body_len_allowed : Header → Bool
body_len_allowed h = body_fits (op_of h.op) h.body_len

abbrev pub count_allowed : Version → Header → Bool
count_allowed v h = if has_attributes h then nat_le h.count (most_deps_in v) else h.count == 0

-- the fields of the header in their order, each with whether it is allowed
abbrev pub names_rows : Header → List (FrameFault × Bool)
names_rows h =
    (Magic, h.magic == 0x4550) ∷ (OtherVersion, h.version == 1 || h.version == 2 || h.version == 3) ∷ (Kind, within 1 8 h.kind)
    ∷ (Field 4, nat_le h.from 6) ∷ (Field 5, nat_le h.to 6 && not (h.to == h.from))
    ∷ (Field 8, nat_le 1 h.entry) ∷ (Field 12, within 1 281474976710655 h.stamp) ∷ []

abbrev pub ballot_rows : Version → Header → List (FrameFault × Bool)
ballot_rows v h =
    (Field 20, nat_le h.leader 6) ∷ (Field 21, within 1 (highest_in v) h.number)
    ∷ (Field 23, counter_allowed h) ∷ (Field 25, replica_allowed h) ∷ []

abbrev pub vote_rows : Header → List (FrameFault × Bool)
vote_rows h =
    (Field 26, status_allowed h) ∷ (Field 27, other_counter_allowed h) ∷ (Field 29, other_replica_allowed h) ∷ []

abbrev pub body_rows : Version → Header → List (FrameFault × Bool)
body_rows v h =
    (Field 30, seq_allowed h) ∷ (Field 34, op_allowed v h) ∷ (Field 35, key_len_allowed h)
    ∷ (Field 36, text_len_allowed v h) ∷ (Field 38, count_allowed v h) ∷ []

-- never found in versions 1 and 2
abbrev pub late_rows : Version → Header → List (FrameFault × Bool)
late_rows v h = (Field 40, generation_allowed v h) ∷ (Field 44, body_len_allowed h) ∷ []

-- the second where the first finds no fault
infixr 10 ◌>>◌
abbrev pub ◌>>◌ : Result (Unit {0}) FrameFault → Result (Unit {0}) FrameFault → Result (Unit {0}) FrameFault
(Ok x) >> next = next
(Err e) >> next = Err e

-- the first row that isn't allowed
abbrev pub checked : List (FrameFault × Bool) → Result (Unit {0}) FrameFault
checked [] = Ok tt
checked (row ∷ rows) = if row.1 then checked rows else Err row.0

-- the version that a header names
abbrev pub version_in : Header → Version
version_in h = version_of h.version h.generation

-- the first field that this version doesn't allow
unfoldable pub header_fault_in : Version → Header → Result (Unit {0}) FrameFault
header_fault_in v h = do
  checked (names_rows h)
  checked (ballot_rows v h)
  checked (vote_rows h)
  checked (body_rows v h)
  checked (late_rows v h)

abbrev pub header_fault : Header → Result (Unit {0}) FrameFault
header_fault h = header_fault_in (version_in h) h

-- where the second key begins, the body, and the dependencies

abbrev pub second_place : Header → ℕ
second_place h = header_len h.version + h.key_len

abbrev pub body_place : Header → ℕ
body_place h = second_place h + h.second_len

abbrev pub deps_place : Header → ℕ
deps_place h = body_place h + h.body_len

abbrev pub frame_len : Header → ℕ
frame_len h = deps_place h + 3 * h.count

abbrev pub is_instance : ℕ → Bool
is_instance i = nat_le (leader_of i) 6 && within 1 highest_number (number_of i)

abbrev pub precedes_first : ℕ → List ℕ → Bool
precedes_first i [] = true
precedes_first i (j ∷ js) = nat_lt i j

-- each is an instance, and greater than the one before it
abbrev pub are_deps : List ℕ → Bool
are_deps [] = true
are_deps (i ∷ is) = is_instance i && precedes_first i is && are_deps is

-- all are numbered up to this
abbrev pub are_early : ℕ → List ℕ → Bool
are_early most [] = true
are_early most (i ∷ is) = nat_le (number_of i) most && are_early most is

-- the version has these instances: version 3 has all
abbrev pub are_in : Version → List ℕ → Bool
are_in V1 is = are_early (highest_in V1) is
are_in V2 is = are_early (highest_in V2) is
are_in (V3 g) is = true

-- there are two keys, and they are the same
abbrev pub has_same_keys : Header → List ℕ → Bool
has_same_keys h b = is_twice (take h.key_len (drop (header_len h.version) b)) (take h.second_len (drop (second_place h) b))

-- the body doesn't fit the op: a comparison's is what it expects and what is new, that of a command over many keys its items, with nothing left over
abbrev pub has_other_body : Header → List ℕ → Bool
has_other_body h b = not (body_said (op_of h.op) (take h.body_len (drop (body_place h) b)))

-- the deps are in order, and of the version
abbrev pub deps_allowed : Version → List ℕ → Bool
deps_allowed v is = are_deps is && are_in v is

-- the length is that of the fields, the deps are in order, two keys differ, and the body fits the op
unfoldable pub rest_fault : Header → List ℕ → Result (Unit {0}) FrameFault
rest_fault h b =
    if not (length b == frame_len h) then Err Length
    else if not (deps_allowed (version_in h) (deps_in (drop (deps_place h) b))) then Err Order
    else if has_same_keys h b then Err SameKey
    else if has_other_body h b then Err Body
    else Ok tt

-- fewer bytes than a header of its version has
abbrev pub is_short : List ℕ → Bool
is_short b = nat_lt (length b) (header_len (number_at 2 1 b))

unfoldable pub fault_of : List ℕ → Result (Unit {0}) FrameFault
fault_of b = if is_short b then Err Short else do
  header_fault (header_at b)
  rest_fault (header_at b) b

abbrev pub HasNoFault : List ℕ → Type 0
HasNoFault b = fault_of b ≡ Ok tt

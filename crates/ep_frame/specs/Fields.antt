-- Where the fields of a frame stand.
use Rattle.std.specs.Prelude.{ℕ, ◌+◌, ◌*◌, List, [], ◌∷◌, ◌++◌, Bool, ◌&&◌, not, ◌==◌, if◌then◌else◌}
use Rattle.byteorder.specs.Endian.{big_from, big_bytes}
use Rattle.ep_base.specs.Instances.{instance_of, leader_of, number_of}
use Rattle.ep_frame.specs.declared.header.Header.{Header}

-- the number in the n bytes from place i, the highest first
unfoldable pub number_at : ℕ → ℕ → List ℕ → ℕ
number_at i n b = big_from i n b

-- the number as n bytes, the highest first
unfoldable pub number_bytes : ℕ → ℕ → List ℕ
number_bytes n x = big_bytes n x

-- how many bytes the header of a version has, by the version's number
abbrev pub header_len : ℕ → ℕ
header_len version = if version == 3 then 48 else 40

-- The field at 36 is the second key's length, but of a put of version 1 or 2, where it is the body's. Version 3 has the generation and the body's length behind the first 40 bytes.

abbrev pub is_early_put : (version op : ℕ) → Bool
is_early_put version op = not (version == 3) && op == 3

abbrev pub second_len_from : (version op at_36 : ℕ) → ℕ
second_len_from version op at_36 = if is_early_put version op then 0 else at_36

abbrev pub generation_from : (version at_40 : ℕ) → ℕ
generation_from version at_40 = if version == 3 then at_40 else 0

abbrev pub body_len_from : (version op at_36 at_44 : ℕ) → ℕ
body_len_from version op at_36 at_44 = if version == 3 then at_44 else if op == 3 then at_36 else 0

-- the fields of the header
abbrev pub header_at : List ℕ → Header
header_at b = record {
  magic = number_at 0 2 b;
  version = number_at 2 1 b;
  kind = number_at 3 1 b;
  from = number_at 4 1 b;
  to = number_at 5 1 b;
  out = number_at 6 2 b;
  entry = number_at 8 4 b;
  stamp = number_at 12 8 b;
  leader = number_at 20 1 b;
  number = number_at 21 2 b;
  counter = number_at 23 2 b;
  replica = number_at 25 1 b;
  status = number_at 26 1 b;
  other_counter = number_at 27 2 b;
  other_replica = number_at 29 1 b;
  seq = number_at 30 4 b;
  op = number_at 34 1 b;
  key_len = number_at 35 1 b;
  second_len = second_len_from (number_at 2 1 b) (number_at 34 1 b) (number_at 36 2 b);
  count = number_at 38 2 b;
  generation = generation_from (number_at 2 1 b) (number_at 40 4 b);
  body_len = body_len_from (number_at 2 1 b) (number_at 34 1 b) (number_at 36 2 b) (number_at 44 4 b);
}

-- fields in their order, each with its width in bytes
abbrev pub start_fields : Header → List (ℕ × ℕ)
start_fields h = (2, h.magic) ∷ (1, h.version) ∷ (1, h.kind) ∷ (1, h.from) ∷ []

abbrev pub origin_fields : Header → List (ℕ × ℕ)
origin_fields h = (1, h.to) ∷ (2, h.out) ∷ (4, h.entry) ∷ (8, h.stamp) ∷ []

abbrev pub ballot_fields : Header → List (ℕ × ℕ)
ballot_fields h = (1, h.leader) ∷ (2, h.number) ∷ (2, h.counter) ∷ (1, h.replica) ∷ []

abbrev pub vote_fields : Header → List (ℕ × ℕ)
vote_fields h = (1, h.status) ∷ (2, h.other_counter) ∷ (1, h.other_replica) ∷ []

-- the field at 36
abbrev pub text_len : Header → ℕ
text_len h = if is_early_put h.version h.op then h.body_len else h.second_len

abbrev pub body_fields : Header → List (ℕ × ℕ)
body_fields h = (4, h.seq) ∷ (1, h.op) ∷ (1, h.key_len) ∷ (2, text_len h) ∷ (2, h.count) ∷ []

-- those that version 3 alone has
abbrev pub late_fields : Header → List (ℕ × ℕ)
late_fields h = if h.version == 3 then (4, h.generation) ∷ (4, h.body_len) ∷ [] else []

abbrev pub spelled : List (ℕ × ℕ) → List ℕ
spelled [] = []
spelled (f ∷ fs) = number_bytes f.0 f.1 ++ spelled fs

abbrev pub header_bytes : Header → List ℕ
header_bytes h = spelled (start_fields h) ++ spelled (origin_fields h) ++ spelled (ballot_fields h) ++ spelled (vote_fields h) ++ spelled (body_fields h) ++ spelled (late_fields h)

-- three bytes to a dependency: its leader, and its number
abbrev pub dep_bytes : ℕ → List ℕ
dep_bytes i = number_bytes 1 (leader_of i) ++ number_bytes 2 (number_of i)

abbrev pub deps_in : List ℕ → List ℕ
deps_in [] = []
deps_in (r ∷ []) = []
deps_in (r ∷ a ∷ []) = []
deps_in (r ∷ a ∷ b ∷ rest) = instance_of r (a * 256 + b) ∷ deps_in rest

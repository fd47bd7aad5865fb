-- What a host reads of a frame that it passes on.
use Rattle.std.specs.Prelude.{◌≡◌, ◌⊎◌, ℕ, ◌+◌, Bool, true, false, ◌&&◌, eqb, ltb, List, length}
use Rattle.ep_frame.specs.Faults.{body_place}
use Rattle.ep_frame.specs.Fields.{header_at, number_at}
use Rattle.ep_frame.specs.declared.header.Header.{Header}
use Rattle.ep_library.specs.Statuses.{done, bad_frame}
use Rattle.ep_library.specs.declared.frame_head.FrameHead.{FrameHead}

-- they begin with `EP` and the version 3
abbrev pub is_third : List ℕ → Bool
is_third bytes = eqb (number_at 0 2 bytes) 0x4550 && eqb (number_at 2 1 bytes) 3

abbrev pub head_of : Header → FrameHead
head_of h = record {
  entry = h.entry;
  generation = h.generation;
  body_at = body_place h;
  body_len = h.body_len;
  number = h.number;
  ballot = h.counter;
  dependencies = h.count;
  replica = h.leader;
  from = h.from;
  to = h.to;
  kind = h.kind;
  op = h.op;
}

-- what a header of version 3 says, by the places of its fields
abbrev pub head_at : List ℕ → FrameHead
head_at bytes = record {
  entry = number_at 8 4 bytes;
  generation = number_at 40 4 bytes;
  body_at = 48 + number_at 35 1 bytes + number_at 36 2 bytes;
  body_len = number_at 44 4 bytes;
  number = number_at 21 2 bytes;
  ballot = number_at 23 2 bytes;
  dependencies = number_at 38 2 bytes;
  replica = number_at 20 1 bytes;
  from = number_at 4 1 bytes;
  to = number_at 5 1 bytes;
  kind = number_at 3 1 bytes;
  op = number_at 34 1 bytes;
}

-- nothing is reported
abbrev pub IsHeadless : ℕ → FrameHead → FrameHead → Type 0
IsHeadless status old new = (status ≡ bad_frame) × (new ≡ old)

-- what the header says is reported, or there is none of version 3
abbrev pub ReportsHead : ℕ → List ℕ → FrameHead → FrameHead → Type 0
ReportsHead status bytes old new =
    ((ltb (length bytes) 48 ≡ true) × IsHeadless status old new)
    ⊎ ((ltb (length bytes) 48 ≡ false)
    × (((is_third bytes ≡ false) × IsHeadless status old new)
    ⊎ ((is_third bytes ≡ true) × (status ≡ done) × (new ≡ head_of (header_at bytes)))))

-- What stands in an opening file before its map, as it is read by its places.
use Rattle.std.specs.Prelude.{◌≡◌, ◌⊎◌, ℕ, ◌+◌, Bool, true, false, not, cond, ◌&&◌, ◌||◌, eqb, leb, ltb, List, length}
use Rattle.ep_base.specs.Values.{most_value}
use Rattle.ep_frame.specs.Fields.{number_at}
use Rattle.ep_library.specs.Statuses.{done, opening_short, opening_wrong}
use Rattle.ep_library.specs.Syncing.{flag}
use Rattle.ep_library.specs.declared.opening_head.OpeningHead.{OpeningHead}
use Rattle.ep_opening.specs.Bytes.{magic}
use Rattle.ep_opening.specs.Reading.{mark_of}

-- a cluster has so many replicas
abbrev pub is_known_size : ℕ → Bool
is_known_size n = eqb n 3 || (eqb n 5 || eqb n 7)

-- it begins as an opening file of a cluster does
abbrev pub is_lead : List ℕ → Bool
is_lead bytes = eqb (number_at 0 4 bytes) magic && (eqb (number_at 4 1 bytes) 3 && is_known_size (number_at 5 1 bytes))

-- a seal began the generation
abbrev pub has_seal_at : List ℕ → Bool
has_seal_at bytes = eqb (number_at 18 1 bytes) 1

abbrev pub seal_len_at : List ℕ → ℕ
seal_len_at bytes = cond (has_seal_at bytes) (number_at 19 4 bytes) 0

-- the generation and the stamp are in range
abbrev pub is_dated : List ℕ → Bool
is_dated bytes = leb 1 (number_at 6 4 bytes) && leb (number_at 10 8 bytes) 281474976710655

-- only the first generation begins with no seal
abbrev pub is_marked : List ℕ → Bool
is_marked bytes = eqb (number_at 18 1 bytes) (mark_of (number_at 6 4 bytes))

-- the fields before the map are an opening's
abbrev pub is_front : List ℕ → Bool
is_front bytes = is_lead bytes && (is_dated bytes && (is_marked bytes && leb (seal_len_at bytes) most_value))

-- where the map begins
abbrev pub map_place : List ℕ → ℕ
map_place bytes = cond (has_seal_at bytes) (23 + seal_len_at bytes) 19

-- they are there, and how many keys the map has
abbrev pub has_front : List ℕ → Bool
has_front bytes = leb (map_place bytes + 4) (length bytes)

abbrev pub head_at : List ℕ → OpeningHead
head_at bytes = record {
  base_stamp = number_at 10 8 bytes;
  map_at = map_place bytes;
  generation = number_at 6 4 bytes;
  seal_len = seal_len_at bytes;
  keys = number_at (map_place bytes) 4 bytes;
  replicas = number_at 5 1 bytes;
  has_seal = flag (has_seal_at bytes);
}

-- nothing is reported, as the status says
abbrev pub IsFrontless : ℕ → ℕ → OpeningHead → OpeningHead → Type 0
IsFrontless why status old reported = (status ≡ why) × (reported ≡ old)

-- what they say is reported; or more bytes are needed, or they are no opening's
abbrev pub ReportsFront : ℕ → List ℕ → OpeningHead → OpeningHead → Type 0
ReportsFront status bytes old reported =
    ((ltb (length bytes) 23 ≡ true) × IsFrontless opening_short status old reported)
    ⊎ ((ltb (length bytes) 23 ≡ false)
    × (((is_front bytes ≡ false) × IsFrontless opening_wrong status old reported)
    ⊎ ((is_front bytes ≡ true)
    × (((has_front bytes ≡ false) × IsFrontless opening_short status old reported)
    ⊎ ((has_front bytes ≡ true) × (status ≡ done) × (reported ≡ head_at bytes))))))

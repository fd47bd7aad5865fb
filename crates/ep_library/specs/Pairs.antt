-- Where a key and its value stand in the bytes of a map.
use Rattle.std.specs.Prelude.{◌≡◌, ◌⊎◌, ℕ, ◌+◌, Bool, true, false, leb, ltb, List, length}
use Rattle.ep_frame.specs.Fields.{number_at}
use Rattle.ep_library.specs.Statuses.{done, none}
use Rattle.ep_library.specs.declared.pair.Pair.{Pair}

-- with the lengths of both before them
abbrev pub pair_len : List ℕ → ℕ
pair_len bytes = 5 + number_at 0 1 bytes + number_at 1 4 bytes

-- they are there, whole
abbrev pub has_pair : List ℕ → Bool
has_pair bytes = leb (pair_len bytes) (length bytes)

abbrev pub pair_at : List ℕ → Pair
pair_at bytes = record {
  len = pair_len bytes;
  key_at = 5;
  key_len = number_at 0 1 bytes;
  value_at = 5 + number_at 0 1 bytes;
  value_len = number_at 1 4 bytes;
}

-- nothing is reported
abbrev pub IsPairless : ℕ → Pair → Pair → Type 0
IsPairless status old reported = (status ≡ none) × (reported ≡ old)

-- where they stand is reported, or they aren't there
abbrev pub ReportsPair : ℕ → List ℕ → Pair → Pair → Type 0
ReportsPair status bytes old reported =
    ((ltb (length bytes) 5 ≡ true) × IsPairless status old reported)
    ⊎ ((ltb (length bytes) 5 ≡ false)
    × (((has_pair bytes ≡ false) × IsPairless status old reported)
    ⊎ ((has_pair bytes ≡ true) × (status ≡ done) × (reported ≡ pair_at bytes))))

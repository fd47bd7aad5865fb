-- Two lists, place by place.
use Rattle.std.specs.Prelude.{◌≡◌, ℕ, ◌<◌, List, length, slice_index_or}

-- two lists of one length, of which each two elements at one place are so related
pub record Each {X : Type 0} (R : X → X → Type 0) (xs ys : List X) : Type 0 where
  pub len : length ys ≡ length xs
  pub at : (i : ℕ) (d : X) → i < length xs → R (slice_index_or xs i d) (slice_index_or ys i d)

-- the same, where the place counts
pub record EachAt {X : Type 0} (R : ℕ → X → X → Type 0) (xs ys : List X) : Type 0 where
  pub len : length ys ≡ length xs
  pub at : (i : ℕ) (d : X) → i < length xs → R i (slice_index_or xs i d) (slice_index_or ys i d)

-- What is to be sent of the frames out of entries.
use Rattle.std.specs.Prelude.{◌≡◌, ℕ, ◌+◌, List, [], ◌∷◌, length}

-- the first list is what is left of the second where some are lost
pub data IsThinned : List (List ℕ) → List (List ℕ) → Type 0 where
  none : IsThinned [] []
  kept : {xs ys : List (List ℕ)} (x : List ℕ) → IsThinned xs ys → IsThinned (x ∷ xs) (x ∷ ys)
  lost : {xs ys : List (List ℕ)} (y : List ℕ) → IsThinned xs ys → IsThinned xs (y ∷ ys)

-- these frames are those, in order, less so many that are lost
pub record IsCopied (out frames : List (List ℕ)) (lost : ℕ) : Type 0 where
  pub thin : IsThinned frames out
  pub counted : length frames + lost ≡ length out

-- A source that keeps what it gave.
use Rattle.std.specs.Prelude.{◌≡◌, ◌&&◌, ℕ, eqb, Bool, true, false, not, List, Option, Some, ◌++◌, drop}
use Rattle.std.specs.Io.KnownBytes.{prepend_known}
use Rattle.ep_explain.specs.declared.explain_fault.ExplainFault.{ExplainFault}
use Rattle.ep_explain.specs.declared.explain_fault.ExplainFault.TheVariants.{Memory, ReadFailed}

-- a source, the bytes that are kept of it, how many of them were pulled, and whether the source has reported its end: it isn't pulled from then on
pub record Keeper (S : Type 0) : Type 0 where
  pub source : S
  pub bytes : List ℕ
  pub at : ℕ
  pub is_over : Bool

-- these bytes, and then those that a source has left, where these are known; none where it has reported its end
abbrev pub followed : Bool → List ℕ → Option (List ℕ) → Option (List ℕ)
followed true bs known = Some bs
followed false bs known = prepend_known bs known

-- what is left to be pulled: the bytes that are kept and weren't pulled, and then those of the source
abbrev pub known_left : {S : Type 0} → (S → Option (List ℕ)) → Keeper S → Option (List ℕ)
known_left left k = followed k.is_over (drop k.at k.bytes) (left k.source)

-- a source reports its end that gives no byte where there is room
abbrev pub ends : ℕ → ℕ → Bool
ends count room = eqb count 0 && not (eqb room 0)

-- these bytes are given of those that are kept
pub record Gives {S : Type 0} (old new : Keeper S) (given : List ℕ) : Type 0 where
  pub source : new.source ≡ old.source
  pub over : new.is_over ≡ old.is_over
  pub front : drop old.at old.bytes ≡ given ++ drop new.at new.bytes

-- the source has failed
abbrev pub is_read_failed : ExplainFault → Bool
is_read_failed Memory = false
is_read_failed ReadFailed = true

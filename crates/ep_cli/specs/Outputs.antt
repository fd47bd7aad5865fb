-- What is written on an output, and which device has failed.
use Rattle.std.specs.Prelude.{◌≡◌, ◌⊎◌, ℕ, Bool, true, List, [], Option}
use Rattle.std.specs.Io.KnownBytes.{Appends}

-- an input: whether it had failed before, and has after
pub record Input : Type 0 where
  pub had_failed : Bool
  pub failed : Bool

abbrev pub input : Bool → Bool → Input
input had_failed failed = record { had_failed = had_failed; failed = failed }

-- an output: the bytes that it held before and holds after, where these are known, and whether it had failed before, and has after
pub record Output : Type 0 where
  pub before : Option (List ℕ)
  pub after : Option (List ℕ)
  pub had_failed : Bool
  pub failed : Bool

abbrev pub output : Option (List ℕ) → Option (List ℕ) → Bool → Bool → Output
output before after had_failed failed = record { before = before; after = after; had_failed = had_failed; failed = failed }

-- a sink that was this and is now that, by the bytes that one holds and whether one has failed
abbrev pub became : {W : Type 0} → (W → Option (List ℕ)) → (W → Bool) → W → W → Output
became held has_failed old new = output (held old) (held new) (has_failed old) (has_failed new)

-- a source that was this and is now that
abbrev pub turned : {S : Type 0} → (S → Bool) → S → S → Input
turned has_failed old new = input (has_failed old) (has_failed new)

-- these bytes were written, and nothing else
abbrev pub Wrote : Output → List ℕ → Type 0
Wrote o bytes = Appends o.before o.after bytes

abbrev pub WroteNothing : Output → Type 0
WroteNothing o = Wrote o []

-- this line was written, and nothing else, unless the output has failed
abbrev pub Reported : Output → List ℕ → Type 0
Reported o line = (o.failed ≡ true) ⊎ Wrote o line

-- In between, neither failed, or just the input, or just the output.

abbrev pub NoneFailed : Input → Output → Type 0
NoneFailed i o = (i.failed ≡ i.had_failed) × (o.failed ≡ o.had_failed)

abbrev pub InputFailed : Input → Output → Type 0
InputFailed i o = (i.failed ≡ true) × (o.failed ≡ o.had_failed)

abbrev pub OutputFailed : Input → Output → Type 0
OutputFailed i o = (i.failed ≡ i.had_failed) × (o.failed ≡ true)

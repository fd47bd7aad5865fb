-- What a pull and a put do to the bytes of a source and a sink, where these are known, and to whether it has failed.
use Rattle.std.specs.Prelude.{◌≡◌, ℕ, ◌<◌, ◌||◌, Bool, true, false, List, length, take, Option, Result, Ok, Err, MatchResult}
use Rattle.std.specs.Io.KnownBytes.{Consumes, Appends, Keeps, IsAtEnd}

-- it gave the first n bytes of buf, none only at the end, or it failed from then on and gave none
abbrev pub Pulls : {E : Type 0} → Option (List ℕ) → Option (List ℕ) → Bool → Bool → Result ℕ E → List ℕ → Type 0
Pulls old new had has r buf = MatchResult r (λ n. Consumes old new (take n buf) × (n ≡ 0 → 0 < length buf → IsAtEnd old) × (has ≡ had)) (λ _. Keeps old new × (has ≡ true))

-- it took all bytes, or it failed from then on
abbrev pub Puts : {T E : Type 0} → Option (List ℕ) → Option (List ℕ) → Bool → Bool → Result T E → List ℕ → Type 0
Puts old new had has r bytes = MatchResult r (λ _. Appends old new bytes × (has ≡ had)) (λ _. has ≡ true)

-- whether a call reports the fault of its device, which `is_its` picks out of the faults that the call can report
abbrev pub reports : {T E : Type 0} → (E → Bool) → Result T E → Bool
reports is_its (Ok x) = false
reports is_its (Err e) = is_its e

-- after a call its device has failed where the call says so or it had failed before, and nowhere else
abbrev pub FailsAsReported : {T E : Type 0} → (E → Bool) → Result T E → Bool → Bool → Type 0
FailsAsReported is_its r had has = has ≡ (reports is_its r || had)

-- a device, and whether it has failed
pub record Watched (T : Type 0) : Type 0 where
  pub inner : T
  pub failed : Bool

-- a device, how many calls on the one that fails is (1 is the next one, 0 means none), and whether that one has been
pub record Staged (T : Type 0) : Type 0 where
  pub inner : T
  pub call : ℕ
  pub failed : Bool

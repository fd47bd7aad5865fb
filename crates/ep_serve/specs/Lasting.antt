-- What is on the disk from a moment on.
use Rattle.std.specs.Prelude.{◌≡◌, ◌⊎◌, ℕ, ◌≤◌, List, take, Option, Some}
use Rattle.ep_journal.specs.declared.entry.Entry.{Entry}
use Rattle.ep_log.specs.Bytes.{LogRecord, entries_in, log_bytes}
use Rattle.ep_log.specs.Origins.{Origin}
use Rattle.ep_log.specs.Reading.{IsBeginning}
use Rattle.ep_replica.specs.Kept.{Kept}

-- what the replica began with, whose opening's file has this digest
abbrev pub origin_of : List ℕ → Kept → Origin
origin_of digest k = record { version = k.version; opening = k.opening; digest = digest }

-- c begins with the replica's log of these entries, whatever stands behind them
abbrev pub Keeps : List ℕ → Kept → List Entry → List ℕ → Type 0
Keeps digest k es c = (records : List LogRecord) × (entries_in records ≡ es) × IsBeginning (log_bytes (origin_of digest k) k.faults k.me records) c

-- What crashes of a device may leave: the digest of the opening's file, whether its bytes were known at first, the moment then and the one now, and what a crash from a moment on might have left.
pub record Crashes : Type 1 where
  pub digest : List ℕ
  pub known : Type 0
  pub start : ℕ
  pub now : ℕ
  pub since : ℕ → List ℕ → Type 0

abbrev pub crashes : {D : Type 0} → List ℕ → (D → Option (List ℕ)) → (D → ℕ) → (D → ℕ → List ℕ → Type 0) → D → D → Crashes
crashes digest seen moment left_since old new = record { digest = digest; known = (bytes : List ℕ) × (seen old ≡ Some bytes); start = moment old; now = moment new; since = left_since new }

-- From the moment t on, which isn't after now, whatever a crash might have left has the log of the replica's entries.
pub record LastsFrom (w : Crashes) (t : ℕ) (k : Kept) : Type 0 where
  pub by_now : w.known → t ≤ w.now
  pub keeps : w.known → (c : List ℕ) → w.since t c → Keeps w.digest k k.entries c

abbrev pub Lasts : Crashes → Kept → Type 0
Lasts w k = (t : ℕ) × LastsFrom w t k

-- Time goes on while the first n entries of the replica are on the disk: what a crash might have left since an earlier moment might have been left then, or
-- has these entries.
pub record Onward (digest : List ℕ) (since since' : ℕ → List ℕ → Type 0) (now now' : ℕ) (k : Kept) (n : ℕ) : Type 0 where
  pub later : now ≤ now'
  pub keeps : (t : ℕ) (c : List ℕ) → t ≤ now → since' t c → since t c ⊎ Keeps digest k (take n k.entries) c

-- where the bytes of the device were known
abbrev pub GoesOn : {D : Type 0} → List ℕ → (D → Option (List ℕ)) → (D → ℕ) → (D → ℕ → List ℕ → Type 0) → D → D → Kept → ℕ → Type 0
GoesOn digest seen moment left_since old new k n = (bytes : List ℕ) → seen old ≡ Some bytes → Onward digest (left_since old) (left_since new) (moment old) (moment new) k n

-- where the bytes of the old device were known, those of the new one are too
abbrev pub StaysKnown : {D : Type 0} → (D → Option (List ℕ)) → D → D → Type 0
StaysKnown seen old new = (bytes : List ℕ) → seen old ≡ Some bytes → (after : List ℕ) × (seen new ≡ Some after)

-- now and later a crash leaves the log of all its entries, where the bytes of the old device were known
abbrev pub IsKept : {D : Type 0} → List ℕ → (D → Option (List ℕ)) → (D → ℕ) → (D → ℕ → List ℕ → Type 0) → D → D → Kept → Type 0
IsKept digest seen moment left_since old new k = (bytes : List ℕ) → seen old ≡ Some bytes → (c : List ℕ) → left_since new (moment new) c → Keeps digest k k.entries c

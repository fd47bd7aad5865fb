-- What files of receipts hold, in a version and a cluster of n replicas: receipts, one after the other, as a bundle of that version has them.
use Rattle.std.specs.Prelude.{◌≡◌, ℕ, ◌+◌, ◌*◌, ◌^◌, ◌≤◌, ◌<◌, Bool, cond, eqb, leb, ltb, List, [], ◌∷◌, ◌++◌, length, take, Some, Ok, Err, slice_get, slice_index_or as get_or}
use Rattle.ep_base.specs.Values.{most_value}
use Rattle.ep_base.specs.declared.version.Version.{Version}
use Rattle.ep_base.specs.declared.version_kind.VersionKind.TheVariants.{V1, V2, V3}
use Rattle.ep_bundle.specs.Bytes.{length_width}
use Rattle.ep_bundle.specs.Reading.{Left}
use Rattle.ep_bundle.specs.Stages.{receipt}
use Rattle.ep_bundle.specs.declared.bad_field.BadField.{BadField}
use Rattle.ep_bundle.specs.declared.bundle_fault.BundleFault.{BundleFault}
use Rattle.ep_bundle.specs.declared.bundle_fault.BundleFault.TheVariants as bundle
use Rattle.ep_rules.specs.declared.receipt.Receipt.{Receipt}
use Rattle.ep_assemble.specs.declared.assembled.End.{End}
use Rattle.ep_assemble.specs.declared.assemble_fault.AssembleFault.{AssembleFault}
use Rattle.ep_assemble.specs.declared.assemble_fault.AssembleFault.TheVariants.{Memory, Log, Collect, Receipts, TooManyReceipts}

-- all of a file
abbrev pub all_of : List ℕ → Left
all_of bytes = record { at = 0; bytes = bytes }

-- the receipts stand there, and l' is what is left after them
abbrev pub AreReceipts : Version → ℕ → Left → List Receipt → Left → Type 0
AreReceipts w n l [] l' = l' ≡ l
AreReceipts w n l (r ∷ rs) l' = (m : Left) × (receipt w n l ≡ Ok (r, m)) × AreReceipts w n m rs l'

-- the byte at the place, 0 where there is none
abbrev pub byte_at : List ℕ → ℕ → ℕ
byte_at bytes place = get_or bytes place 0

-- the number of the two bytes from the place on
abbrev pub two_at : List ℕ → ℕ → ℕ
two_at bytes place = 256 * byte_at bytes place + byte_at bytes (place + 1)

-- the length of a value that a receipt has, behind the code of its answer
abbrev pub reported_length : Version → List ℕ → ℕ
reported_length V1 bytes = two_at bytes 33
reported_length V2 bytes = two_at bytes 33
reported_length (V3 g) bytes = 65536 * two_at bytes 33 + two_at bytes 35

-- how long a value may be that is answered
abbrev pub most_reported : Version → ℕ
most_reported V1 = 1024
most_reported V2 = 1024
most_reported (V3 g) = most_value

-- 0 where no value is so long
abbrev pub value_length : Version → ℕ → ℕ
value_length w n = cond (leb n (most_reported w)) n 0

-- how many bytes a receipt has that begins so: 33, and where its answer has a value, that value's length and the value
abbrev pub receipt_length : Version → List ℕ → ℕ
receipt_length w bytes = cond (eqb (byte_at bytes 32) 1) (33 + length_width w + value_length w (reported_length w bytes)) 33

-- fewer bytes than the receipt has that begins so
abbrev pub is_cut : Version → List ℕ → Bool
is_cut w bytes = ltb (length bytes) (receipt_length w bytes)

-- The bytes are these receipts, up to a cut one where their end is torn.
pub record Hold (w : Version) (n : ℕ) (bytes : List ℕ) (rs : List Receipt) (end : End) : Type 0 where
  pub tail : Left
  pub read : AreReceipts w n (all_of bytes) rs tail
  pub cut : length tail.bytes < receipt_length w tail.bytes
  pub whole : end.whole + length tail.bytes ≡ length bytes
  pub torn : end.is_torn ≡ ltb 0 (length tail.bytes)

-- behind some receipts stands one that isn't cut, and its field at this offset isn't allowed
pub record IsSpoiled (w : Version) (n at : ℕ) (bytes : List ℕ) : Type 0 where
  pub receipts : List Receipt
  pub tail : Left
  pub read : AreReceipts w n (all_of bytes) receipts tail
  pub whole : receipt_length w tail.bytes ≤ length tail.bytes
  pub field : BadField
  pub refused : receipt w n tail ≡ Err (bundle.BadBundle field)
  pub offset : at ≡ field.at

-- why no receipts were read of these bytes: out of memory is no fault of theirs
abbrev pub IsUnheld : Version → ℕ → List ℕ → BundleFault → Type 0
IsUnheld w n bytes bundle.Memory = Unit {0}
IsUnheld w n bytes bundle.ReadFailed = Unit {0}
IsUnheld w n bytes (bundle.BadBundle field) = IsSpoiled w n field.at bytes
IsUnheld w n bytes (bundle.NotARun replica entry) = Unit {0}

-- each file holds some of the receipts, in order
abbrev pub AreHeld : Version → ℕ → List (List ℕ) → List Receipt → List End → Type 0
AreHeld w n [] rs [] = rs ≡ []
AreHeld w n (bytes ∷ files) rs (end ∷ ends) = (first rest : List Receipt) × Hold w n bytes first end × AreHeld w n files rest ends × (rs ≡ first ++ rest)
AreHeld _ _ _ _ _ = ⊥

-- these are the bytes at the place, they hold no receipts at this offset, and those before them hold receipts
pub record IsFirstSpoiled (w : Version) (n place at : ℕ) (files : List (List ℕ)) : Type 0 where
  pub receipts : List Receipt
  pub ends : List End
  pub before : AreHeld w n (take place files) receipts ends
  pub bytes : List ℕ
  pub stands : slice_get files place ≡ Some bytes
  pub spoiled : IsSpoiled w n at bytes

-- the files hold more receipts than a bundle counts
pub record AreTooMany (w : Version) (n : ℕ) (files : List (List ℕ)) : Type 0 where
  pub receipts : List Receipt
  pub ends : List End
  pub held : AreHeld w n files receipts ends
  pub many : 2 ^ 32 ≤ length receipts

-- the first fault of files of receipts
abbrev pub AreUnheld : Version → ℕ → List (List ℕ) → AssembleFault → Type 0
AreUnheld w n files Memory = Unit {0}
AreUnheld w n files (Log place fault) = ⊥
AreUnheld w n files (Collect fault) = ⊥
AreUnheld w n files (Receipts place at) = IsFirstSpoiled w n place at files
AreUnheld w n files TooManyReceipts = AreTooMany w n files

-- why these bytes, at this place, hold no receipts
abbrev pub IsNotHeld : Version → ℕ → ℕ → List ℕ → AssembleFault → Type 0
IsNotHeld w n place bytes Memory = Unit {0}
IsNotHeld w n place bytes (Log p fault) = ⊥
IsNotHeld w n place bytes (Collect fault) = ⊥
IsNotHeld w n place bytes (Receipts p at) = (p ≡ place) × IsSpoiled w n at bytes
IsNotHeld w n place bytes TooManyReceipts = ⊥

abbrev pub of_receipts : ℕ → BundleFault → AssembleFault
of_receipts place bundle.Memory = Memory
of_receipts place bundle.ReadFailed = Memory
of_receipts place (bundle.BadBundle field) = Receipts place field.at
of_receipts place (bundle.NotARun replica entry) = Memory

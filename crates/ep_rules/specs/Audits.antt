-- The audit of journals and receipts: what it accepts, and its first fault.
use Rattle.std.specs.Prelude.{◌≡◌, ℕ, ◌+◌, ◌<◌, List, ◌∷◌, ◌++◌, length, Some, slice_get}
use Rattle.ep_rules.specs.Steps.{Frame, Handle}
use Rattle.ep_rules.specs.Worlds.{In}
use Rattle.ep_rules.specs.Journals.{Entry, Journals, WasSent, IsMatched}
use Rattle.ep_rules.specs.Verdicts.{IsKnown, Agrees}
use Rattle.ep_rules.specs.declared.receipt.Receipt.{Receipt}
use Rattle.ep_rules.specs.OneMap.{Store}

-- each handled frame was sent, by an entry of a lower stamp, and each receipt agrees with the journals
pub record IsAccepted (base : Store) (f : ℕ) (journal : Journals) (receipts : List Receipt) : Type 0 where
  pub matched : IsMatched journal
  pub agree : (t : Receipt) → In t receipts → Agrees base f journal t

-- Replica and entry are those of the handling; receipts are counted from 1.
pub data Fault : Type 0 where
  -- nothing was sent where the handled frame says
  UnsentFrame : (replica entry : ℕ) → Fault
  -- another frame was sent there
  ChangedFrame : (replica entry : ℕ) → Fault
  -- the frame's stamp isn't below that of the handling entry
  StampOrder : (replica entry : ℕ) → Fault
  -- nobody proposed or executed what the receipt says
  UnknownReceipt : (place : ℕ) → Fault
  -- the proposal's stamp isn't above the one that the client had seen
  CallerOrder : (place : ℕ) → Fault

-- Handled frames.

-- some frame stands where the frame's sender, entry and place say
pub record HasOrigin (journal : Journals) (m : Frame) : Type 0 where
  pub entry : Entry
  pub stands : In entry (journal m.sent.from)
  pub number : entry.number ≡ m.entry
  pub frame : Frame
  pub there : slice_get entry.out m.place ≡ Some frame

-- the frame that the entry handles, if it handles one, was sent, with a lower stamp
abbrev pub IsFine : Journals → Entry → Type 0
IsFine journal e = (m : Frame) → e.event ≡ Handle m → WasSent journal m × (m.stamp < e.stamp)

-- all that is handled before this entry of r is fine: at lower replicas, and earlier at r
pub record AreFineBefore (journal : Journals) (r : ℕ) (before : List Entry) : Type 0 where
  pub lower : (q : ℕ) (e : Entry) → q < r → In e (journal q) → IsFine journal e
  pub earlier : (e : Entry) → In e before → IsFine journal e

-- the first entry that handles a frame that isn't fine
pub record IsFirstHandling (journal : Journals) (r : ℕ) (e : Entry) (m : Frame) : Type 0 where
  pub before : List Entry
  pub rest : List Entry
  pub split : before ++ (e ∷ rest) ≡ journal r
  pub handles : e.event ≡ Handle m
  pub fine : AreFineBefore journal r before

-- Receipts.

-- the first receipt that doesn't agree, where all handled frames are fine
pub record IsFirstReceipt (base : Store) (f : ℕ) (journal : Journals) (receipts : List Receipt) (place : ℕ) (t : Receipt) : Type 0 where
  pub matched : IsMatched journal
  pub before : List Receipt
  pub rest : List Receipt
  pub split : before ++ (t ∷ rest) ≡ receipts
  pub counted : place ≡ length before + 1
  pub agree : (u : Receipt) → In u before → Agrees base f journal u

-- The first fault.

-- of handled frames by (replica, entry), and of each what the faults' order says; then of receipts in their order
pub data IsFault (base : Store) (f : ℕ) (journal : Journals) (receipts : List Receipt) : Fault → Type 0 where
  unsent : (r : ℕ) (e : Entry) (m : Frame) → IsFirstHandling journal r e m → ¬ HasOrigin journal m → IsFault base f journal receipts (UnsentFrame r e.number)
  changed : (r : ℕ) (e : Entry) (m : Frame) → IsFirstHandling journal r e m → HasOrigin journal m → ¬ WasSent journal m → IsFault base f journal receipts (ChangedFrame r e.number)
  early : (r : ℕ) (e : Entry) (m : Frame) → IsFirstHandling journal r e m → WasSent journal m → ¬ (m.stamp < e.stamp) → IsFault base f journal receipts (StampOrder r e.number)
  unknown : (place : ℕ) (t : Receipt) → IsFirstReceipt base f journal receipts place t → ¬ IsKnown base f journal t → IsFault base f journal receipts (UnknownReceipt place)
  order : (place : ℕ) (t : Receipt) → IsFirstReceipt base f journal receipts place t → IsKnown base f journal t → ¬ Agrees base f journal t → IsFault base f journal receipts (CallerOrder place)

-- What stays open is asked for at last.
use Rattle.std.specs.Prelude.{◌≡◌, ◌≤◌, ◌⊎◌, ◌+◌, ℕ, Bool, true, false, leb, cond, List, [], ◌∷◌, take, slice_get, Option, Some, None}
use Rattle.ep_patience.specs.InTime.{named, Turned, IsTurn}
use Rattle.ep_patience.specs.Turning.{has_room, time_at, waiting_for}
use Rattle.ep_patience.specs.declared.patience.Patience.{Patience}
use Rattle.ep_patience.specs.declared.remedy.Remedy.{Remedy}
use Rattle.ep_patience.specs.declared.seen.Seen.{Seen}
use Rattle.ep_patience.specs.declared.waiting.Waiting.{Waiting}

-- one of this is asked for the instance
abbrev pub IsAsked : ℕ → List Remedy → Type 0
IsAsked i [] = ⊥
IsAsked i (r ∷ rs) = (named r ≡ i) ⊎ IsAsked i rs

-- how many waits for it were over since something was asked for it, up to three
abbrev pub silent_of : Option Waiting → ℕ
silent_of None = 0
silent_of (Some w) = w.silent

abbrev pub silent_at : Patience → ℕ → ℕ
silent_at p i = silent_of (waiting_for p.all.entries i)

-- its wait is over at this own time
abbrev pub is_over : Option Waiting → ℕ → Bool
is_over None time = false
is_over (Some w) time = leb w.due time

abbrev pub is_over_in : ℕ → Turned → Bool
is_over_in i t = is_over (waiting_for t.before.all.entries i) (time_at t.before t.now)

-- the instance is open in the turn, and there is room to ask for it
pub record IsOpenIn (i : ℕ) (t : Turned) : Type 0 where
  pub n : ℕ
  pub x : Seen
  pub open_at : slice_get t.seen n ≡ Some x
  pub instance : x.instance ≡ i
  pub room : has_room t.before (time_at t.before t.now) (take n t.seen) ≡ true

-- Turns one after the other, in each of which it is so. Between two of them anything may change but how many waits for it were over.
abbrev pub StaysOpen : ℕ → Patience → List Turned → Type 0
StaysOpen i p [] = Unit {0}
StaysOpen i p (t ∷ ts) = (silent_at t.before i ≡ silent_at p i) × IsTurn t × IsOpenIn i t × StaysOpen i t.after ts

-- in how many of them its wait is over
abbrev pub waits_over : ℕ → List Turned → ℕ
waits_over i [] = 0
waits_over i (t ∷ ts) = cond (is_over_in i t) 1 0 + waits_over i ts

-- in one of them something is asked for it
abbrev pub IsAskedIn : ℕ → List Turned → Type 0
IsAskedIn i [] = ⊥
IsAskedIn i (t ∷ ts) = IsAsked i t.asked ⊎ IsAskedIn i ts

-- Where its wait is over for the fourth time, something was asked for it.
abbrev pub AsksAtLast : Type 0
AsksAtLast = (i : ℕ) (p : Patience) (ts : List Turned) → StaysOpen i p ts → 4 ≤ waits_over i ts → IsAskedIn i ts

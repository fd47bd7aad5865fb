-- What comes in time is neither given up nor recovered.
use Rattle.std.specs.Prelude.{◌≡◌, ◌≤◌, ◌<◌, ℕ, false, ◌&&◌, List, [], ◌∷◌, slice_get, Some, None}
use Rattle.std.specs.List.{AllByRecursion}
use Rattle.ep_base.specs.Deps.{IsRising}
use Rattle.ep_patience.specs.Turning.{instances, outlook_of, time_at, waiting_for, HasTurned}
use Rattle.ep_patience.specs.Waiting.{begun_due, hopeless_lead, is_own}
use Rattle.ep_patience.specs.Peers.{distance, peer_of}
use Rattle.ep_patience.specs.Waiting.{chance}
use Rattle.ep_patience.specs.declared.outlook.Outlook.{Outlook}
use Rattle.ep_patience.specs.declared.patience.Patience.{Patience}
use Rattle.ep_patience.specs.declared.remedy.Remedy.{Remedy}
use Rattle.ep_patience.specs.declared.remedy.Remedy.TheVariants.{GiveUp, Recover}
use Rattle.ep_patience.specs.declared.seen.Seen.{Seen}
use Rattle.ep_patience.specs.declared.waiting.Waiting.{Waiting}
use Rattle.ep_base.specs.Instances.{leader_of}

abbrev pub named : Remedy → ℕ
named (GiveUp i) = i
named (Recover i) = i

-- none of this is asked for the instance
abbrev pub IsUnasked : ℕ → List Remedy → Type 0
IsUnasked i asked = AllByRecursion (λ (r : Remedy). ¬ (named r ≡ i)) asked

-- the instance is waited for until then at least, and nothing was asked for it
abbrev pub Awaits : Patience → ℕ → ℕ → Type 0
Awaits p i until = (w : Waiting) × (waiting_for p.all.entries i ≡ Some w) × (w.is_asked ≡ false) × (until ≤ w.due)

-- it doesn't wait in vain: of an own proposal as many are reached of those to which it goes as it needs
abbrev pub IsHopeful : Outlook → Seen → Type 0
IsHopeful o x = (is_own o x && hopeless_lead o x.leads) ≡ false

-- A turn, with what was before it and after it.
pub record Turned : Type 0 where
  pub before : Patience
  pub now : ℕ
  pub seen : List Seen
  pub asked : List Remedy
  pub after : Patience

pub record IsTurn (t : Turned) : Type 0 where
  pub rising : IsRising (instances t.seen)
  pub turned : HasTurned t.before t.now t.seen t.after t.asked

-- the instance is open in it, doesn't wait in vain, and the time is before that
pub record IsEarly (i until : ℕ) (t : Turned) : Type 0 where
  pub n : ℕ
  pub x : Seen
  pub open_at : slice_get t.seen n ≡ Some x
  pub instance : x.instance ≡ i
  pub hopeful : IsHopeful (outlook_of t.before (time_at t.before t.now) x) x
  pub early : time_at t.before t.now < until

-- when the wait ends that begins in the turn
abbrev pub begins_due : Patience → ℕ → Seen → ℕ
begins_due p now x =
    begun_due (outlook_of p (time_at p now) x) p.waits.reported (distance p.waits (peer_of p.peers (leader_of x.instance))) x (chance p.seed (time_at p now) x.instance)

abbrev pub BeginsPatient : Type 0
BeginsPatient = (t : Turned) (n : ℕ) (x : Seen) → IsTurn t → slice_get t.seen n ≡ Some x → waiting_for t.before.all.entries x.instance ≡ None → IsHopeful (outlook_of t.before (time_at t.before t.now) x) x
    → time_at t.before t.now < begins_due t.before t.now x → IsUnasked x.instance t.asked × Awaits t.after x.instance (begins_due t.before t.now x)

-- Turns one after the other. Between two of them anything may change but that what is waited for is waited for as long at least.
abbrev pub IsRun : ℕ → Patience → List Turned → Type 0
IsRun i p [] = Unit {0}
IsRun i p (t ∷ ts) = ((until : ℕ) → Awaits p i until → Awaits t.before i until) × IsTurn t × IsRun i t.after ts

abbrev pub StaysPatient : Type 0
StaysPatient = (i until : ℕ) (p : Patience) (ts : List Turned) → Awaits p i until → IsRun i p ts → AllByRecursion (IsEarly i until) ts → AllByRecursion (λ (t : Turned). IsUnasked i t.asked) ts

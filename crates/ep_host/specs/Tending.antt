-- What one pump does to a replica.
use Rattle.std.specs.Prelude.{◌≡◌, ◌⊎◌, ℕ, ◌+◌, Bool, ◌||◌, is_some, List, [], ◌++◌, length, Option, Some, None}
use Rattle.ep_journal.specs.declared.entry.Entry.{Entry}
use Rattle.ep_journal.specs.declared.event.Event.{Event}
use Rattle.ep_journal.specs.declared.event.Event.TheVariants as event
use Rattle.ep_journal.specs.declared.event.Event.TheVariants.{Handle}
use Rattle.ep_journal.specs.declared.step_fault.StepFault.{StepFault}
use Rattle.ep_journal.specs.declared.step_fault.StepFault.TheVariants.{Memory}
use Rattle.ep_journal.specs.Entries.{frames_of}
use Rattle.ep_replica.specs.Applied.{Applied, IsDeclined}
use Rattle.ep_replica.specs.Kept.{Kept}
use Rattle.ep_replica.specs.Pending.{ExecutesNext}
use Rattle.ep_host.specs.Sent.{IsThinned, IsCopied}
use Rattle.ep_host.specs.declared.act.Act.{Act}
use Rattle.ep_host.specs.declared.act.Act.TheVariants.{GiveUp, Recover}
use Rattle.ep_host.specs.declared.tended.Tended.{Tended}

-- the event that a replica is given
abbrev pub event_of : Act → Event
event_of (GiveUp i) = event.GiveUp i
event_of (Recover i) = event.Recover i

-- a frame that is refused when out of memory is lost; one that is refused otherwise isn't
abbrev pub lost_by : StepFault → ℕ
lost_by Memory = 1
lost_by _ = 0

-- nothing is given; or the frame has made its entry, or was refused, and so many are lost
abbrev pub Handled : Option (List ℕ) → Kept → ℕ → Kept → Type 0
Handled None old lost new = (new ≡ old) × (lost ≡ 0)
Handled (Some b) old lost new =
    (((e : Entry) × Applied old (Handle b) e new) × (lost ≡ 0)) ⊎ ((fault : StepFault) × IsDeclined old (Handle b) fault × (new ≡ old) × (lost ≡ lost_by fault))

-- the same, with the frames that the entry sends
abbrev pub Handles : Option (List ℕ) → Kept → List (List ℕ) → ℕ → Kept → Type 0
Handles None old frames lost new = (new ≡ old) × (frames ≡ []) × (lost ≡ 0)
Handles (Some b) old frames lost new =
    ((e : Entry) × Applied old (Handle b) e new × IsCopied e.frames frames lost)
    ⊎ ((fault : StepFault) × IsDeclined old (Handle b) fault × (new ≡ old) × (frames ≡ []) × (lost ≡ lost_by fault))

-- the frame is handled, and then at most one execution follows; the frames are those out of the new entries, in order, less those that are lost
pub record Tends (given : Option (List ℕ)) (old new : Kept) (r : Tended) : Type 0 where
  pub between : Kept
  -- whether the given frame itself was lost, 1 or 0
  pub dropped : ℕ
  pub handled : Handled given old dropped between
  pub executed : Bool
  pub executes : ExecutesNext between executed new
  pub moved : r.moved ≡ (is_some given || executed)
  pub entries : List Entry
  pub grown : new ≡ record old { entries = old.entries ++ entries }
  pub thin : IsThinned r.frames.items (frames_of entries)
  pub counted : length r.frames.items + r.lost ≡ length (frames_of entries) + dropped

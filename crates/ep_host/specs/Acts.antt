-- What one event does to a replica and to its rings.
use Rattle.std.specs.Prelude.{◌≡◌, ◌⊎◌, ℕ, List}
use Rattle.ep_journal.specs.declared.entry.Entry.{Entry}
use Rattle.ep_journal.specs.declared.event.Event.{Event}
use Rattle.ep_journal.specs.declared.event.Event.TheVariants.{Handle}
use Rattle.ep_journal.specs.declared.step_fault.StepFault.{StepFault}
use Rattle.ep_replica.specs.Applied.{Applied, IsDeclined}
use Rattle.ep_replica.specs.Kept.{Kept}
use Rattle.ep_host.specs.Fates.{IsSent}
use Rattle.ep_host.specs.Tending.{lost_by}
use Rattle.ep_host.specs.declared.link.Link.{Link}
use Rattle.ep_host.specs.declared.weather.Weather.{Weather}

-- the event made its entry, whose frames went out in this weather, and so many are lost
pub record Made (ws : List Weather) (event : Event) (lost : ℕ) (old new : Kept) (before after : List Link) : Type 0 where
  pub entry : Entry
  pub applied : Applied old event entry new
  pub sent : IsSent ws entry.frames lost before after

-- the event was refused for this reason, and all is as it was
pub record IsIdle (event : Event) (fault : StepFault) (old new : Kept) (before after : List Link) : Type 0 where
  pub declined : IsDeclined old event fault
  pub replica : new ≡ old
  pub rings : after ≡ before

-- the frame made its entry, or was refused; so many frames are lost, itself among them where there was no memory for it
abbrev pub IsHandled : List Weather → List ℕ → ℕ → Kept → Kept → List Link → List Link → Type 0
IsHandled ws b lost old new before after = Made ws (Handle b) lost old new before after ⊎ ((fault : StepFault) × IsIdle (Handle b) fault old new before after × (lost ≡ lost_by fault))

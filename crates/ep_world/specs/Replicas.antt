-- The replicas of a world, and what the code's parts are.
use Rattle.std.specs.Prelude.{◌≡◌, ◌⊎◌, ℕ, zero, suc, ◌<◌, ◌≤◌, List, [], ◌∷◌, ◌++◌}
use Rattle.ep_base.specs.Quorums.{size}
use Rattle.ep_base.specs.declared.version.Version.{Version}
use Rattle.ep_journal.specs.Entries.{Log, IsJournal, all_entries, first_opening}
use Rattle.ep_journal.specs.declared.entry.Entry.{Entry}
use Rattle.ep_journal.specs.declared.event.Event.{Event as Happening}
use Rattle.ep_journal.specs.declared.step_fault.StepFault.{StepFault}
use Rattle.ep_journal.specs.declared.step_fault.StepFault.TheVariants.{Memory, OutOfRange}
use Rattle.ep_journal.specs.Openings.{Opening}
use Rattle.ep_replica.specs.Applied.{Applied, IsDeclined}
use Rattle.ep_replica.specs.Kept.{Kept, first_version}
use Rattle.ep_world.specs.Played.{Played, replica_in}
use Rattle.ep_world.specs.Playing.{grown}
use Rattle.ep_world.specs.declared.place.Place.{Place}

-- they are replica r of a cluster and all after it, of this version and with this opening
abbrev pub AreReplicas : Version → Opening → ℕ → ℕ → List Kept → Type 0
AreReplicas v o f r [] = r ≡ size f
AreReplicas v o f r (k ∷ ks) = (k.version ≡ v) × (k.opening ≡ o) × (k.faults ≡ f) × (k.me ≡ r) × AreReplicas v o f (suc r) ks

-- they are a cluster's, of one version and with one opening
abbrev pub AreAll : ℕ → List Kept → Type 0
AreAll f ks = AreReplicas (first_version ks) (first_opening ks) f 0 ks

-- the world of these replicas
abbrev pub world_of : ℕ → List Kept → List (ℕ × ℕ) → List Place → Played
world_of f ks steps messages = record { version = first_version ks; faults = f; opening = first_opening ks; entries = all_entries ks; steps = steps; messages = messages }

-- the journals are those of the replicas
abbrev pub AreTheirs : List Kept → List Log → Type 0
AreTheirs [] [] = Unit {0}
AreTheirs [] (l ∷ ls) = ⊥
AreTheirs (k ∷ ks) [] = ⊥
AreTheirs (k ∷ ks) (l ∷ ls) = (l ≡ k) × IsJournal l.version l.opening l.faults l.me l.entries × AreTheirs ks ls

-- the first n places of an entry's frames
abbrev pub places_up_to : ℕ → ℕ → ℕ → List Place
places_up_to r number zero = []
places_up_to r number (suc n) = places_up_to r number n ++ record { replica = r; entry = number; out = n } ∷ []

-- the replica took the event, and its entry was added
pub record Took (w : Played) (r : ℕ) (taken : Happening) (w' : Played) : Type 0 where
  pub entry : Entry
  pub there : r < size w.faults
  pub applied : Applied (replica_in w r) taken entry (replica_in w' r)
  pub becomes : w' ≡ grown w r entry

-- why it didn't: there is no such replica, or its first reason
abbrev pub IsUntaken : Played → ℕ → Happening → StepFault → Type 0
IsUntaken w r taken fault = ((fault ≡ OutOfRange) × (size w.faults ≤ r)) ⊎ (fault ≡ Memory) ⊎ ((r < size w.faults) × IsDeclined (replica_in w r) taken fault)

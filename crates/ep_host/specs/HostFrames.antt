-- What hosts carry: frames of the versions that their replicas may be of.
use Rattle.std.specs.Prelude.{◌≡◌, ◌≢◌, ◌≤◌, ◌⊎◌, ℕ, List, All, Option, Some, None}
use Rattle.ep_base.specs.Versions.{version_number}
use Rattle.ep_base.specs.declared.version.Version.{Version}
use Rattle.ep_frame.specs.Meaning.{version_at}
use Rattle.ep_journal.specs.declared.event.Event.TheVariants.{Handle}
use Rattle.ep_journal.specs.declared.step_fault.StepFault.{StepFault}
use Rattle.ep_journal.specs.declared.step_fault.StepFault.TheVariants.{OtherVersion, OtherGeneration}
use Rattle.ep_replica.specs.Applied.{IsDeclined}
use Rattle.ep_replica.specs.Kept.{Kept}

-- the frame is of version 2 or of a generation
abbrev pub IsHostFrame : List ℕ → Type 0
IsHostFrame b = 2 ≤ version_number (version_at b)

abbrev pub AreHostFrames : List (List ℕ) → Type 0
AreHostFrames frames = All IsHostFrame frames

-- each of the frames is of this version
abbrev pub AreOfVersion : Version → List (List ℕ) → Type 0
AreOfVersion v frames = All (λ (b : List ℕ). version_at b ≡ v) frames

-- the frame, if there is one and it is of this version
abbrev pub IsOnly : Version → Option (List ℕ) → Option (List ℕ) → Type 0
IsOnly v None given = given ≡ None
IsOnly v (Some b) given = ((version_at b ≡ v) × (given ≡ Some b)) ⊎ ((version_at b ≢ v) × (given ≡ None))

-- no replica refuses a frame of its own version for its version or generation
abbrev pub NoneForVersion : Type 0
NoneForVersion = (k : Kept) (b : List ℕ) (fault : StepFault) → version_at b ≡ k.version → IsDeclined k (Handle b) fault → (fault ≢ OtherVersion) × (fault ≢ OtherGeneration)

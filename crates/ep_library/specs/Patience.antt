-- When to wait no longer: what each call does, by its status.
use Rattle.std.specs.Prelude.{◌≡◌, ◌≤◌, ◌<◌, ◌⊎◌, ℕ, Bool, List, [], Option, Some, None}
use Rattle.std.specs.Option.{MatchOption}
use Rattle.ep_base.specs.Quorums.{size}
use Rattle.ep_library.specs.Arguments.{IsPlace, IsSize}
use Rattle.ep_library.specs.Statuses.{done, memory, out_of_range, none, no_patience, has_patience}
use Rattle.ep_library.specs.Syncing.{IsRun}
use Rattle.ep_library.specs.declared.instance.Instance.{Instance}
use Rattle.ep_library.specs.declared.lent.Lent.{Lent}
use Rattle.ep_library.specs.declared.waits.Waits.{Waits}
use Rattle.ep_patience.specs.Hosting.{HasReported}
use Rattle.ep_patience.specs.OpenBytes.{open_list}
use Rattle.ep_patience.specs.Turning as turning
use Rattle.ep_patience.specs.declared.hosted_patience.HostedPatience.{HostedPatience}

-- none was begun, as the status says, and none is there; or one is there, and this holds of it
abbrev pub WithPatience : ℕ → Option HostedPatience → Option HostedPatience → (HostedPatience → HostedPatience → Type 0) → Type 0
WithPatience status old new P = MatchOption old ((status ≡ no_patience) × (new ≡ None)) (λ h. MatchOption new ⊥ (λ k. P h k))

-- it is as it was, as the status says
abbrev pub Stands : ℕ → ℕ → Option HostedPatience → Option HostedPatience → Type 0
Stands why status old new = (status ≡ why) × (new ≡ old)

-- the same, unless no peer has this number
abbrev pub WithPeer : ℕ → Option HostedPatience → ℕ → Option HostedPatience → (HostedPatience → HostedPatience → Type 0) → Type 0
WithPeer status old peer new P = ((¬ (peer ≤ 6)) × Stands out_of_range status old new) ⊎ WithPatience status old new P

-- the same, unless there is no such instance
abbrev pub WithInstance : ℕ → Option HostedPatience → Instance → Option HostedPatience → (HostedPatience → HostedPatience → Type 0) → Type 0
WithInstance status old i new P = ((¬ IsPlace i) × Stands out_of_range status old new) ⊎ WithPatience status old new P

-- How one is begun.

-- there is such a replica
pub record HasPlace (w : Waits) : Type 0 where
  pub cluster : IsSize w.replicas
  pub me : w.replica < w.replicas

-- it is new, of this replica, with these waits and this seed, and has reported nothing
pub record IsBegun (w : Waits) (h : HostedPatience) : Type 0 where
  pub faults : ℕ
  pub cluster : size faults ≡ w.replicas
  pub patience : turning.IsNew faults w.replica (record { granularity = w.granularity; initial = w.initial; reported = w.told; longest = w.longest }) w.seed h.patience
  pub reported : h.reported.items ≡ []

-- it is there; or there was no memory for it
abbrev pub Puts : ℕ → HostedPatience → Option HostedPatience → Type 0
Puts status h new = ((status ≡ done) × (new ≡ Some h)) ⊎ ((status ≡ memory) × (new ≡ None))

abbrev pub Seats : ℕ → Waits → Option HostedPatience → Type 0
Seats status w new = ((¬ HasPlace w) × (status ≡ out_of_range) × (new ≡ None)) ⊎ ((h : HostedPatience) × IsBegun w h × Puts status h new)

-- there is one already; or one is begun
abbrev pub BeginsPatience : ℕ → Option HostedPatience → Waits → Option HostedPatience → Type 0
BeginsPatience status None w new = Seats status w new
BeginsPatience status (Some h) w new = Stands has_patience status (Some h) new

-- What is reported to it.

abbrev pub Measures : ℕ → HostedPatience → ℕ → ℕ → HostedPatience → Type 0
Measures status h peer took k = (status ≡ done) × (k ≡ record h { patience = turning.with_measured h.patience peer took })

abbrev pub Reaches : ℕ → HostedPatience → ℕ → Bool → HostedPatience → Type 0
Reaches status h peer is_reached k = (status ≡ done) × (k ≡ record h { patience = turning.with_reached h.patience peer is_reached })

abbrev pub Hurries : ℕ → HostedPatience → HostedPatience → Type 0
Hurries status h k = (status ≡ done) × (k ≡ record h { patience = turning.with_hurry h.patience })

abbrev pub PutsOff : ℕ → HostedPatience → ℕ → ℕ → ℕ → HostedPatience → Type 0
PutsOff status h i ballot now k = (status ≡ done) × turning.PutsOff h.patience i ballot now k.patience × (k.reported ≡ h.reported)

-- What it reports.

-- there was a turn, and where what is asked for stands; or there was none, as the status says
abbrev pub Turns : ℕ → HostedPatience → ℕ → List ℕ → HostedPatience → Lent → Type 0
Turns status h now bytes k late =
    ((status ≡ done) × HasReported h.patience now bytes k.patience k.reported.items × IsRun k.reported late)
    ⊎ (((status ≡ memory) × (k ≡ h)) ⊎ ((status ≡ out_of_range) × (open_list bytes ≡ None) × (k ≡ h)))

abbrev pub ReportsDue : ℕ → Option ℕ → ℕ → ℕ → Type 0
ReportsDue status None other reported = (status ≡ none) × (reported ≡ other)
ReportsDue status (Some due) other reported = (status ≡ done) × (reported ≡ due)

abbrev pub Dues : ℕ → HostedPatience → ℕ → ℕ → Type 0
Dues status h other reported = ReportsDue status (turning.next_due h.patience) other reported

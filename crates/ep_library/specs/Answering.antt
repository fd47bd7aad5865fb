-- What a replica reports, by the status.
use Rattle.std.specs.Prelude.{◌≡◌, ◌≢◌, ◌⊎◌, ◌<◌, ◌≤◌, ℕ, zero, suc, true, false, List, length, Option, Some, None}
use Rattle.ep_base.specs.Quorums.{size}
use Rattle.ep_embedded.specs.Hosting.{Hosting, IsOnDisk}
use Rattle.ep_embedded.specs.Reporting.{HasClosed, HasListed, HasLooked, IsUnclosed, IsUnreported}
use Rattle.ep_embedded.specs.declared.report_fault.ReportFault.{ReportFault}
use Rattle.ep_library.specs.Arguments.{instance_in, IsPlace, IsSize}
use Rattle.ep_library.specs.Calls.{Stays, Unless}
use Rattle.ep_library.specs.Executing.{instance_out}
use Rattle.ep_library.specs.Statuses.{done, memory, none, out_of_range, close_status, report_status}
use Rattle.ep_library.specs.Syncing.{IsRun}
use Rattle.ep_library.specs.declared.instance.Instance.{Instance}
use Rattle.ep_library.specs.declared.leading.Leading.{Leading}
use Rattle.ep_library.specs.declared.lent.Lent.{Lent}
use Rattle.ep_node.specs.Handled.{handled_from}
use Rattle.ep_node.specs.declared.close_fault.CloseFault.{CloseFault}
use Rattle.ep_phase.specs.Progress.{progress_in}
use Rattle.ep_phase.specs.declared.progress.LeadPhase.{LeadPhase}
use Rattle.ep_phase.specs.declared.progress.LeadPhase.TheVariants.{Proposing, Accepting, Preparing}
use Rattle.ep_replica.specs.Pending.{state_of}
use Rattle.ep_rules.specs.Maps as maps
use Rattle.ep_space.specs.Open.{IsNextOpen}

-- nothing is reported, as the status says
abbrev pub IsSilent : ℕ → Hosting → Type 0
IsSilent status h = (fault : ReportFault) × (status ≡ report_status fault) × IsUnreported h fault

-- A local read.

-- the map's value at the key is reported, or there is none, or nothing is reported
abbrev pub Looks : ℕ → Hosting → List ℕ → Hosting → Lent → Type 0
Looks status h key k run =
    ((status ≡ done) × HasLooked h key true k × IsRun k.answers run)
    ⊎ (((status ≡ none) × HasLooked h key false k) ⊎ (IsSilent status h × (k ≡ h)))

abbrev pub IsKeyLong : List ℕ → Type 0
IsKeyLong key = (length key ≡ 0) ⊎ (255 < length key)

abbrev pub LooksUp : ℕ → Option Hosting → List ℕ → Option Hosting → Lent → Type 0
LooksUp status old key new run = Stays memory status old new ⊎ ((IsKeyLong key × Stays out_of_range status old new) ⊎ Unless status old new (λ h k. Looks status h key k run))

-- What all keys have, and what was handled of a peer.

-- the map is reported whole, or nothing is reported
abbrev pub Lists : ℕ → Hosting → Hosting → Lent → Type 0
Lists status h k run = ((status ≡ done) × HasListed h k × IsRun k.answers run) ⊎ (IsSilent status h × (k ≡ h))

-- the greatest entry number in the peer's frames that the replica has handled is reported; or there is no such peer
abbrev pub Counts : ℕ → Option Hosting → ℕ → ℕ → Option Hosting → ℕ → Type 0
Counts status old peer other new reported =
    ((¬ (peer ≤ 6)) × Stays out_of_range status old new × (reported ≡ other))
    ⊎ Unless status old new (λ h k. (status ≡ done) × (reported ≡ handled_from peer h.node.replica.entries) × (k ≡ h))

-- What is open.

-- an instance, if there is one
abbrev pub Shows : ℕ → Option ℕ → Instance → Instance → Type 0
Shows status None old reported = (status ≡ none) × (reported ≡ old)
Shows status (Some i) old reported = (status ≡ done) × (reported ≡ instance_out i)

abbrev pub NextOpens : ℕ → Hosting → Option ℕ → Instance → Instance → Type 0
NextOpens status h above old reported =
    ((found : Option ℕ) × IsOnDisk h × IsNextOpen (state_of h.node.replica).records above found × Shows status found old reported)
    ⊎ (IsSilent status h × (reported ≡ old))

-- the instance above which to look; of number 0: none
abbrev pub above_by : ℕ → Instance → Option ℕ
above_by zero i = None
above_by (suc n) i = Some (instance_in i)

abbrev pub above_in : Instance → Option ℕ
above_in i = above_by i.number i

abbrev pub LooksOn : ℕ → Option Hosting → Instance → Instance → Option Hosting → Instance → Type 0
LooksOn status old above other new reported =
    ((above.number ≢ 0) × (¬ IsPlace above) × Stays out_of_range status old new)
    ⊎ Unless status old new (λ h k. NextOpens status h (above_in above) other reported × (k ≡ h))

-- What is led.

abbrev pub phase_number : LeadPhase → ℕ
phase_number Proposing = 1
phase_number Accepting = 2
phase_number Preparing = 3

abbrev pub ShowsLead : ℕ → Option (LeadPhase × ℕ) → Leading → Leading → Type 0
ShowsLead status None old reported = (status ≡ none) × (reported ≡ old)
ShowsLead status (Some lead) old reported = (status ≡ done) × (reported ≡ record { phase = phase_number lead.0; answers = lead.1 })

abbrev pub AnswersLead : ℕ → Hosting → ℕ → Leading → Leading → Type 0
AnswersLead status h i old reported =
    (IsOnDisk h × ShowsLead status (progress_in h.node.replica.faults h.node.replica.me (maps.get (state_of h.node.replica).leads i)) old reported)
    ⊎ (IsSilent status h × (reported ≡ old))

abbrev pub LooksAt : ℕ → Option Hosting → Instance → Leading → Option Hosting → Leading → Type 0
LooksAt status old i other new reported =
    ((¬ IsPlace i) × Stays out_of_range status old new)
    ⊎ Unless status old new (λ h k. AnswersLead status h (instance_in i) other reported × (k ≡ h))

-- The end of a generation.

abbrev pub Closes : ℕ → Hosting → ℕ → Hosting → Lent → Type 0
Closes status h next k run = ((status ≡ done) × HasClosed h next k × IsRun k.answers run) ⊎ ((fault : CloseFault) × (status ≡ close_status fault) × IsUnclosed h fault × (k ≡ h))

abbrev pub ClosesFor : ℕ → Option Hosting → ℕ → Option Hosting → Lent → Type 0
ClosesFor status old replicas new run =
    ((¬ IsSize replicas) × Stays out_of_range status old new)
    ⊎ ((next : ℕ) × (size next ≡ replicas) × Unless status old new (λ h k. Closes status h next k run))

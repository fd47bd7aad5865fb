-- What is lent and reported, by the status.
use Rattle.std.specs.Prelude.{◌≡◌, ◌⊎◌, ℕ, Bool, true, false, List, length, Option, Some, None}
use Rattle.std.specs.Vec.{vec_ptr}
use Rattle.ep_embedded.specs.Asking.{HasAsked, IsUnasked}
use Rattle.ep_embedded.specs.Following.{HasFollowed, HasPreparedAll}
use Rattle.ep_embedded.specs.Hosting.{Buffer, Hosting}
use Rattle.ep_embedded.specs.Reporting.{HasAnswered, HasLent, HasNoted, HasPrepared, HasReported, IsUnnoted, IsUnprepared, IsUnreported, IsWithheld}
use Rattle.ep_embedded.specs.declared.ask_fault.AskFault.{AskFault}
use Rattle.ep_embedded.specs.declared.prepare_fault.PrepareFault.{PrepareFault}
use Rattle.ep_embedded.specs.declared.sync_fault.SyncFault.{SyncFault}
use Rattle.ep_embedded.specs.declared.report_fault.ReportFault.{ReportFault}
use Rattle.ep_library.specs.Statuses.{done, memory, none, ask_status, prepare_status, sync_status, report_status}
use Rattle.ep_library.specs.declared.lent.Lent.{Lent}

abbrev pub flag : Bool → ℕ
flag true = 1
flag false = 0

-- where these bytes stand, and how many they are
abbrev pub IsRun : Buffer → Lent → Type 0
IsRun buffer run = (run.at ≡ vec_ptr buffer) × (run.len ≡ length buffer.items)

-- where the bytes stand, if there are any
abbrev pub IsRunOf : Option Buffer → Lent → Type 0
IsRunOf None run = run.len ≡ 0
IsRunOf (Some buffer) run = IsRun buffer run

-- What came of it. (Calls take it whole, so it unfolds only where it is made.)

unfoldable pub HasMadeReady : Hosting → Hosting → Type 0
HasMadeReady h k = HasLent h k

unfoldable pub HasSynced : Hosting → ℕ → Hosting → Type 0
HasSynced h count k = HasNoted h count k

unfoldable pub IsUnsynced : Hosting → ℕ → SyncFault → Hosting → Type 0
IsUnsynced h count fault k = IsUnnoted h count fault × (k ≡ h)

unfoldable pub HasReleased : Hosting → Bool → Hosting → Type 0
HasReleased h there k = HasReported h there k

unfoldable pub IsUnreleased : Hosting → ReportFault → Hosting → Type 0
IsUnreleased h fault k = IsWithheld h fault × (k ≡ h)

-- what is to be written is lent; or there was no memory
abbrev pub Lends : ℕ → Hosting → Hosting → Lent → ℕ → Type 0
Lends status h k run anew = ((status ≡ done) × HasMadeReady h k × IsRunOf k.lent run × (anew ≡ flag k.is_anew)) ⊎ ((status ≡ memory) × (k ≡ h))

-- so many bytes are on the disk; or they don't count so, as the status says
abbrev pub Syncs : ℕ → Hosting → ℕ → Hosting → Type 0
Syncs status h count k = ((status ≡ done) × HasSynced h count k) ⊎ ((fault : SyncFault) × (status ≡ sync_status fault) × IsUnsynced h count fault k)

-- the answers that wait are lent, and all that there is to report; or nothing is, as the status says
abbrev pub Answers : ℕ → Hosting → ℕ → ℕ → Hosting → Lent → Type 0
Answers status h reported most k run = ((status ≡ done) × HasAnswered h reported most k × IsRun k.answers run) ⊎ ((fault : ReportFault) × (status ≡ report_status fault) × IsUnreported h fault × (k ≡ h))

-- answers were made of what is lent, and are held; or none were, as the status says
abbrev pub Prepares : ℕ → Hosting → ℕ → ℕ → Hosting → Type 0
Prepares status h reported most k = ((status ≡ done) × HasPrepared h reported most k) ⊎ ((fault : PrepareFault) × (status ≡ prepare_status fault) × IsUnprepared h fault × (k ≡ h))

-- the same as `Answers`, with what the entries did
abbrev pub ReportsAll : ℕ → Hosting → ℕ → ℕ → Hosting → Lent → Type 0
ReportsAll status h reported most k run =
    ((status ≡ done) × HasFollowed h reported most k × IsRun k.answers run)
    ⊎ ((fault : ReportFault) × (status ≡ report_status fault) × IsUnreported h fault × (k ≡ h))

-- the same as `Prepares`, with what the entries did
abbrev pub PreparesAll : ℕ → Hosting → ℕ → ℕ → Hosting → Type 0
PreparesAll status h reported most k =
    ((status ≡ done) × HasPreparedAll h reported most k)
    ⊎ ((fault : PrepareFault) × (status ≡ prepare_status fault) × IsUnprepared h fault × (k ≡ h))

-- the answers that were prepared are lent; or there are none; or they aren't yet, as the status says
abbrev pub Releases : ℕ → Hosting → Hosting → Lent → Type 0
Releases status h k run =
    ((status ≡ done) × HasReleased h true k × IsRun k.answers run)
    ⊎ (((status ≡ none) × HasReleased h false k) ⊎ ((fault : ReportFault) × (status ≡ report_status fault) × IsUnreleased h fault k))

-- a request was done; or it wasn't, as the status says
abbrev pub Asks : ℕ → Hosting → List ℕ → Hosting → Type 0
Asks status h bytes k = ((status ≡ done) × HasAsked h bytes k) ⊎ ((fault : AskFault) × (status ≡ ask_status fault) × IsUnasked h bytes fault k)

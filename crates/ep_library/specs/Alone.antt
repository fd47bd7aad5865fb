-- What calls do that need no replica.
use Rattle.std.specs.Prelude.{◌≡◌, ◌⊎◌, ◌<◌, ◌≤◌, ◌++◌, ◌∷◌, ℕ, Bool, true, false, List, [], drop, length, None, Ok, Err, Result}
use Rattle.ep_base.specs.Quorums.{size}
use Rattle.ep_bundle.specs.Journals.{ReadsBundle}
use Rattle.ep_bundle.specs.Reading.{Left}
use Rattle.ep_bundle.specs.Texts.{fault_text}
use Rattle.ep_bundle.specs.declared.bundle_fault.BundleFault.{BundleFault}
use Rattle.ep_bundle.specs.declared.bundle_fault.BundleFault.TheVariants.{Memory, ReadFailed, BadBundle, NotARun}
use Rattle.ep_journal.specs.Entries.{Collected}
use Rattle.ep_journal.specs.Openings.{no_opening}
use Rattle.ep_opening.specs.Bytes.{opening_bytes}
use Rattle.ep_opening.specs.Files.{File}
use Rattle.ep_report.specs.Judging.{IsSaid}
use Rattle.ep_rules.specs.declared.receipt.Receipt.{Receipt}
use Rattle.ep_library.specs.Statuses.{done, memory, out_of_range, refused, too_short, bundle_status}
use Rattle.ep_library.specs.Arguments.{IsSize}

-- the bytes stand at the front of the buffer, which has room for them, and what stands behind them stays as it was
abbrev pub IsCopied : List ℕ → List ℕ → List ℕ → Type 0
IsCopied bytes out out' = (length bytes ≤ length out) × (out' ≡ bytes ++ drop (length bytes) out)

-- the text is copied, with this status; or the buffer is too short; how long the text is is reported in any case
abbrev pub Copies : ℕ → ℕ → List ℕ → List ℕ → List ℕ → ℕ → Type 0
Copies status well text out out' reported =
    (reported ≡ length text)
    × (((status ≡ well) × IsCopied text out out') ⊎ ((status ≡ too_short) × (length out < length text) × (out' ≡ out)))

-- there was no memory, and nothing is written
abbrev pub Leaves : ℕ → ℕ → List ℕ → ℕ → List ℕ → ℕ → Type 0
Leaves status why out reported out' reported' = (status ≡ why) × (out' ≡ out) × (reported' ≡ reported)

-- The first generation.

abbrev pub first_file : ℕ → File
first_file faults = record { faults = faults; generation = 1; opening = no_opening; seal = None; executed = [] }

abbrev pub OpensFirst : ℕ → ℕ → List ℕ → ℕ → List ℕ → ℕ → Type 0
OpensFirst status replicas out reported out' reported' =
    ((¬ IsSize replicas) × Leaves status out_of_range out reported out' reported')
    ⊎ (Leaves status memory out reported out' reported'
    ⊎ ((faults : ℕ) × (size faults ≡ replicas) × Copies status done (opening_bytes (first_file faults)) out out' reported'))

-- Audits.

-- the bytes are the bundle of these journals and receipts; or they are none, for this fault
abbrev pub IsRead : List ℕ → Result (Collected × List Receipt) BundleFault → Type 0
IsRead bytes (Ok bundle) = (end : Left) × ReadsBundle (record { at = 0; bytes = bytes }) (Ok (bundle, end))
IsRead bytes (Err Memory) = Unit {0}
IsRead bytes (Err ReadFailed) = Unit {0}
IsRead bytes (Err (BadBundle field)) = ReadsBundle (record { at = 0; bytes = bytes }) (Err (BadBundle field))
IsRead bytes (Err (NotARun replica entry)) = ReadsBundle (record { at = 0; bytes = bytes }) (Err (NotARun replica entry))

abbrev pub verdict_status : Bool → ℕ
verdict_status true = done
verdict_status false = refused

-- what an audit says, and its status
abbrev pub IsVerdict : Collected → List Receipt → ℕ → List ℕ → Type 0
IsVerdict journals receipts status text = (accepts : Bool) × (status ≡ verdict_status accepts) × IsSaid journals receipts accepts text

-- the fault is one of the bytes
abbrev pub IsOfBytes : BundleFault → Type 0
IsOfBytes Memory = ⊥
IsOfBytes ReadFailed = ⊥
IsOfBytes (BadBundle field) = Unit {0}
IsOfBytes (NotARun replica entry) = Unit {0}

-- what an audit of the bytes reports, and its status: what it says of the bundle that they are, or why they are none
abbrev pub IsFound : List ℕ → ℕ → List ℕ → Type 0
IsFound bytes status text =
    ((journals : Collected) × (receipts : List Receipt) × IsRead bytes (Ok (journals, receipts)) × IsVerdict journals receipts status text)
    ⊎ ((fault : BundleFault) × IsOfBytes fault × IsRead bytes (Err fault) × (status ≡ bundle_status fault) × (text ≡ fault_text fault ++ 10 ∷ []))

abbrev pub Audits : ℕ → List ℕ → List ℕ → ℕ → List ℕ → ℕ → Type 0
Audits status bundle out reported out' reported' =
    Leaves status memory out reported out' reported'
    ⊎ ((well : ℕ) × (text : List ℕ) × IsFound bundle well text × Copies status well text out out' reported')

-- The bundle of upgraded journals.
use Rattle.std.specs.Prelude.{◌≡◌, ◌⊎◌, ◌≤◌, ℕ, List, Ok, Err}
use Rattle.ep_base.specs.Versions.{version_number}
use Rattle.ep_base.specs.declared.version_kind.VersionKind.TheVariants.{V2}
use Rattle.ep_bundle.specs.Bytes.{bundle_bytes}
use Rattle.ep_bundle.specs.Journals.{Contents, ReadsBundle, ReadsBundleOf}
use Rattle.ep_bundle.specs.Reading.{Left, Reading}
use Rattle.ep_bundle.specs.declared.bundle_fault.BundleFault.{BundleFault}
use Rattle.ep_bundle.specs.declared.bundle_fault.BundleFault.TheVariants as bundle
use Rattle.ep_frame.specs.Spelling.{AreBytes}
use Rattle.ep_journal.specs.Entries.{Collected}
use Rattle.ep_journal.specs.Upgrading.{IsUpgraded}
use Rattle.ep_rules.specs.declared.receipt.Receipt.{Receipt}
use Rattle.ep_bundle.specs.Respelled.{IsThird, respelled_bytes}
use Rattle.ep_cli.specs.Outputs.{Output, Wrote}
use Rattle.ep_main.specs.declared.engine_fault.EngineFault.{EngineFault}
use Rattle.ep_main.specs.declared.engine_fault.EngineFault.TheVariants.{Script, BadBundle, NotARun, Memory, Read, Write}
use Rattle.ep_main.specs.declared.target.Target.{Target}
use Rattle.ep_main.specs.declared.target.Target.TheVariants.{Second, Third}

-- what the bytes are as a bundle
abbrev pub Reads : List ℕ → Reading Contents → Type 0
Reads zs o = ReadsBundle (record { at = 0; bytes = zs }) o

-- the same where version 3 isn't read
abbrev pub ReadsEarly : List ℕ → Reading Contents → Type 0
ReadsEarly zs o = ReadsBundleOf 1 2 (record { at = 0; bytes = zs }) o

-- the bytes are no bundle, for this first fault
abbrev pub IsUnread : List ℕ → BundleFault → Type 0
IsUnread zs fault = Reads zs (Err fault)

-- The bytes are one bundle of version 1 or 2, and what was written is the bundle of its journals in version 2, with its receipts.
pub record IsSecond (zs : List ℕ) (out : Output) : Type 0 where
  pub journals : Collected
  pub receipts : List Receipt
  pub end : Left
  pub read : ReadsEarly zs (Ok ((journals, receipts), end))
  pub upgraded : Collected
  pub upgrade : IsUpgraded journals upgraded
  pub wrote : Wrote out (bundle_bytes upgraded receipts)
  -- of version 2 it is what was read
  pub same : journals.version ≡ V2 → AreBytes zs → Wrote out zs

-- The bytes are one bundle of version 1 or 2, and what was written is the bundle of its journals in version 3, with its receipts.
pub record IsEarlyInThird (zs : List ℕ) (out : Output) : Type 0 where
  pub journals : Collected
  pub receipts : List Receipt
  pub end : Left
  pub read : Reads zs (Ok ((journals, receipts), end))
  pub early : version_number journals.version ≤ 2
  pub text : List ℕ
  pub third : IsThird journals receipts text
  pub wrote : Wrote out text

-- The bytes are one bundle of version 3, and what was written is the same again.
pub record IsLateAsItIs (zs : List ℕ) (out : Output) : Type 0 where
  pub journals : Collected
  pub receipts : List Receipt
  pub end : Left
  pub read : Reads zs (Ok ((journals, receipts), end))
  pub late : 3 ≤ version_number journals.version
  pub wrote : Wrote out (bundle_bytes journals receipts)
  pub same : AreBytes zs → Wrote out zs

-- the bundle in this version was written
abbrev pub IsRewritten : Target → List ℕ → Output → Type 0
IsRewritten Second zs out = IsSecond zs out
IsRewritten Third zs out = IsEarlyInThird zs out ⊎ IsLateAsItIs zs out

-- The bytes are one bundle of version 1 or 2, whose journals are none in version 3, for this first fault.
pub record HasNoThird (zs : List ℕ) (fault : BundleFault) : Type 0 where
  pub journals : Collected
  pub receipts : List Receipt
  pub end : Left
  pub read : Reads zs (Ok ((journals, receipts), end))
  pub early : version_number journals.version ≤ 2
  pub refused : ReadsBundle (record { at = 0; bytes = respelled_bytes journals receipts }) (Err fault)

-- there is no bundle in this version, for this first fault
abbrev pub IsUnupgraded : Target → List ℕ → BundleFault → Type 0
IsUnupgraded Second zs fault = ReadsEarly zs (Err fault)
IsUnupgraded Third zs fault = IsUnread zs fault ⊎ HasNoThird zs fault

-- those journals and receipts are no bundle in version 3, for this fault; or memory was refused
abbrev pub IsThirdFault : Collected → List Receipt → EngineFault → Type 0
IsThirdFault c rs (Script line) = ⊥
IsThirdFault c rs (BadBundle field) = ReadsBundle (record { at = 0; bytes = respelled_bytes c rs }) (Err (bundle.BadBundle field))
IsThirdFault c rs (NotARun replica entry) = ReadsBundle (record { at = 0; bytes = respelled_bytes c rs }) (Err (bundle.NotARun replica entry))
IsThirdFault c rs Memory = Unit {0}
IsThirdFault c rs Read = ⊥
IsThirdFault c rs Write = ⊥

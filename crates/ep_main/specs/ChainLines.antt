-- The lines of files that are no bundles.
use Rattle.std.specs.Prelude.{◌≡◌, ℕ, List, Err}
use Rattle.ep_cli.specs.declared.files_fault.FilesFault.{FilesFault}
use Rattle.ep_cli.specs.declared.files_fault.FilesFault.TheVariants as files
use Rattle.ep_bundle.specs.declared.bundle_fault.BundleFault.{BundleFault}
use Rattle.ep_bundle.specs.declared.bundle_fault.BundleFault.TheVariants as bundle
use Rattle.ep_main.specs.Chains.{ReadsLate, file_line}

-- the line of this fault, or out of memory
abbrev pub IsRefusal : List ℕ → BundleFault → FilesFault → Type 0
IsRefusal name fault files.Memory = Unit {0}
IsRefusal name fault (files.ReadFailed line) = ⊥
IsRefusal name fault (files.Refused line) = line.items ≡ file_line name fault

-- what a reader says of the bytes by this fault, where they aren't a bundle of version 3
abbrev pub IsUnreadLate : List ℕ → BundleFault → Type 0
IsUnreadLate zs bundle.Memory = Unit {0}
IsUnreadLate zs bundle.ReadFailed = Unit {0}
IsUnreadLate zs (bundle.BadBundle field) = ReadsLate zs (Err (bundle.BadBundle field))
IsUnreadLate zs (bundle.NotARun replica entry) = ReadsLate zs (Err (bundle.NotARun replica entry))

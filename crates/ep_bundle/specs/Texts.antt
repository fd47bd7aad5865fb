-- What faults are printed as.
use Rattle.std.specs.Prelude.{ℕ, List, ◌++◌, codes, decimal}
use Rattle.ep_bundle.specs.declared.bundle_fault.BundleFault.{BundleFault}
use Rattle.ep_bundle.specs.declared.bundle_fault.BundleFault.TheVariants.{Memory, ReadFailed, BadBundle, NotARun}

abbrev pub fault_text : BundleFault → List ℕ
fault_text Memory = codes "out of memory"
fault_text ReadFailed = codes "reading failed"
fault_text (BadBundle field) = codes "bundle refused E12 at byte " ++ decimal field.at
fault_text (NotARun replica entry) = codes "bundle refused E11 at replica " ++ decimal replica ++ codes " entry " ++ decimal entry

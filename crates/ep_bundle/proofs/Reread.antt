-- What reading the bytes as a bundle says of them.
use Rattle.std.proofs.Common.{◌≡◌, ℕ, List, Some, Option, Result, Ok, Err}
use Rattle.ep_bundle.specs.Contents.{contents_of}
use Rattle.ep_bundle.specs.Journals.{Contents, Finds, ReadsBundle}
use Rattle.ep_bundle.specs.Reading.{map_ok}
use Rattle.ep_bundle.specs.declared.bundle.Bundle.{Bundle}
use Rattle.ep_bundle.specs.declared.bundle_fault.BundleFault.{BundleFault}
use Rattle.ep_bundle.specs.declared.bundle_fault.BundleFault.TheVariants.{Memory, ReadFailed, BadBundle, NotARun}
use Rattle.ep_bundle.specs.Respelled.{IsBundle, IsUnread}

-- a bundle was found from the bytes' beginning on
abbrev pub Found : List ℕ → Result Bundle BundleFault → ℕ → Option (List ℕ) → Type 0
Found zs r end left = Finds (ReadsBundle (record { at = 0; bytes = zs })) (map_ok contents_of r) end left

pub is_bundle : (zs : List ℕ) (b : Bundle) (end : ℕ) (left : Option (List ℕ)) → Found zs (Ok b) end left → IsBundle zs
is_bundle zs b end left h = ((contents_of b).0, (contents_of b).1, record { at = end; bytes = h.0 }, h.2)

-- none was
pub is_unread : (zs : List ℕ) (fault : BundleFault) (end : ℕ) (left : Option (List ℕ)) → Found zs (Err fault) end left → IsUnread zs fault
is_unread zs Memory end left h = tt
is_unread zs ReadFailed end left h = tt
is_unread zs (BadBundle offset) end left h = h
is_unread zs (NotARun replica entry) end left h = h

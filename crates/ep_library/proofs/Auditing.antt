-- What is read of bytes, and what an audit then reports.
use Rattle.std.proofs.Common.{ℕ, List, Option, Result, Ok, Err, inl}
use Rattle.std.specs.Prelude.{IfOk}
use Rattle.ep_bundle.specs.Journals.{Finds, ReadsBundle}
use Rattle.ep_bundle.specs.declared.bundle_fault.BundleFault.{BundleFault}
use Rattle.ep_bundle.specs.declared.bundle_fault.BundleFault.TheVariants.{Memory, ReadFailed, BadBundle, NotARun}
use Rattle.ep_journal.specs.Entries.{Collected}
use Rattle.ep_library.specs.Alone.{IsFound, IsRead, IsVerdict}
use Rattle.ep_library.specs.declared.alone.Finding.{Finding}
use Rattle.ep_rules.specs.declared.receipt.Receipt.{Receipt}

-- the bundle that was found is what the bytes are, or why they are none
pub is_read : (bytes : List ℕ) (result : Result (Collected × List Receipt) BundleFault) (end : ℕ) (left : Option (List ℕ)) → Finds (ReadsBundle (record { at = 0; bytes = bytes })) result end left → IsRead bytes result
is_read bytes (Ok bundle) end left found = (record { at = end; bytes = found.0 }, found.2)
is_read bytes (Err Memory) end left found = tt
is_read bytes (Err ReadFailed) end left found = tt
is_read bytes (Err (BadBundle field)) end left found = found
is_read bytes (Err (NotARun replica entry)) end left found = found

-- what the audit says of it is what is found of the bytes
pub is_found : {E : Type 0} (bytes : List ℕ) (journals : Collected) (receipts : List Receipt) (result : Result Finding E) → IsRead bytes (Ok (journals, receipts)) → IfOk result (λ f. IsVerdict journals receipts f.status f.text.items)
    → IfOk result (λ f. IsFound bytes f.status f.text.items)
is_found bytes journals receipts (Ok finding) read said = inl (journals, receipts, read, said)
is_found bytes journals receipts (Err fault) read said = tt

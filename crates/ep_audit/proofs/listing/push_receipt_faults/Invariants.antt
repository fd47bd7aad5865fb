use Rattle.std.proofs.Common.{◌≡◌, ◌++◌, suc, drop}
use Rattle.ep_audit.specs.Listed.{receipt_faults}
use Rattle.ep_audit.proofs.listing.push_receipt_faults.Given as goal

abbrev pub invariant-loop-place : goal.invariant-loop-place
invariant-loop-place l = l.found.items ++ receipt_faults l.journals (suc l.place) (drop l.place l.receipts) ≡ l.initial.found.items ++ receipt_faults l.journals 1 l.receipts

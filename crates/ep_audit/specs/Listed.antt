-- All faults of journals and receipts, in the audit's order.
use Rattle.std.specs.Prelude.{ℕ, zero, suc, List, [], ◌∷◌, ◌++◌, Option, Some, None}
use Rattle.ep_base.specs.Quorums.{size}
use Rattle.ep_journal.specs.Entries.{Collected, entries_at}
use Rattle.ep_journal.specs.declared.entry.Entry.{Entry}
use Rattle.ep_audit.specs.Claims.{receipt_fault}
use Rattle.ep_audit.specs.Handlings.{entry_fault}
use Rattle.ep_audit.specs.Faults.{fault_of}
use Rattle.ep_audit.specs.declared.audit_fault.AuditFault.{AuditFault}
use Rattle.ep_rules.specs.Audits.{IsAccepted, IsFault}
use Rattle.ep_rules.specs.Journals.{Journals}
use Rattle.ep_rules.specs.declared.receipt.Receipt.{Receipt}
use Rattle.ep_rules.specs.OneMap.{Store}

-- the fault, if there is one
abbrev pub listed : Option AuditFault → List AuditFault
listed None = []
listed (Some x) = x ∷ []

-- of what entries of r handle
abbrev pub faults_in : Collected → ℕ → List Entry → List AuditFault
faults_in c r [] = []
faults_in c r (e ∷ es) = listed (entry_fault c r e) ++ faults_in c r es

-- of what the replicas below n handle, by replica and entry
abbrev pub faults_below : Collected → ℕ → List AuditFault
faults_below c zero = []
faults_below c (suc n) = faults_below c n ++ faults_in c n (entries_at c n)

-- of receipts, counted from this place
abbrev pub receipt_faults : Collected → ℕ → List Receipt → List AuditFault
receipt_faults c place [] = []
receipt_faults c place (t ∷ ts) = listed (receipt_fault c place t) ++ receipt_faults c (suc place) ts

-- of handled frames, and then of receipts
abbrev pub all_faults : Collected → List Receipt → List AuditFault
all_faults c ts = faults_below c (size c.faults) ++ receipt_faults c 1 ts

-- where there are none, all is accepted; else the first one is the audit's first fault
abbrev pub IsFirst : Store → ℕ → Journals → List Receipt → List AuditFault → Type 0
IsFirst base f journal receipts [] = IsAccepted base f journal receipts
IsFirst base f journal receipts (x ∷ xs) = IsFault base f journal receipts (fault_of x)

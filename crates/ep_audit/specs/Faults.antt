-- What an audit's faults are, and what each is printed as.
use Rattle.std.specs.Prelude.{ℕ, List, ◌++◌, codes, decimal}
use Rattle.ep_rules.specs.Audits.{Fault, UnsentFrame, ChangedFrame, StampOrder, UnknownReceipt, CallerOrder}
use Rattle.ep_audit.specs.declared.audit_fault.AuditFault.{AuditFault}

-- the rule book's fault
abbrev pub fault_of : AuditFault → Fault
fault_of (AuditFault.UnsentFrame replica entry) = UnsentFrame replica entry
fault_of (AuditFault.ChangedFrame replica entry) = ChangedFrame replica entry
fault_of (AuditFault.StampOrder replica entry) = StampOrder replica entry
fault_of (AuditFault.UnknownReceipt place) = UnknownReceipt place
fault_of (AuditFault.CallerOrder place) = CallerOrder place

-- an entry of a replica
abbrev pub entry_text : ℕ → ℕ → List ℕ
entry_text replica entry = codes "replica " ++ decimal replica ++ codes " entry " ++ decimal entry

-- why the audit refuses
abbrev pub fault_text : Fault → List ℕ
fault_text (UnsentFrame replica entry) = codes "A1 unsent frame at " ++ entry_text replica entry
fault_text (ChangedFrame replica entry) = codes "A2 changed frame at " ++ entry_text replica entry
fault_text (StampOrder replica entry) = codes "A3 stamp order at " ++ entry_text replica entry
fault_text (UnknownReceipt place) = codes "A4 unknown receipt " ++ decimal place
fault_text (CallerOrder place) = codes "A5 caller order at receipt " ++ decimal place

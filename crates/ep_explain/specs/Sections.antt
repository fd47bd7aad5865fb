-- Faults, and the reasons under them.
use Rattle.std.specs.Prelude.{ℕ, List, [], ◌∷◌, ◌++◌}
use Rattle.ep_explain.specs.Reasons.{section}
use Rattle.ep_audit.specs.Faults.{fault_of, fault_text}
use Rattle.ep_report.specs.Reports.{text_of}
use Rattle.ep_audit.specs.declared.audit_fault.AuditFault.{AuditFault}

-- the audit's line of a fault, and its reasons
abbrev pub fault_section : AuditFault → List (List ℕ) → List (List ℕ)
fault_section x reasons = section (fault_text (fault_of x)) reasons

-- the faults in their order, each with reasons of its own
pub data AreReported : List AuditFault → List ℕ → Type 0 where
  none : AreReported [] []
  more :
      (xs : List AuditFault) (text : List ℕ) (x : AuditFault) (reasons : List (List ℕ)) → AreReported xs text →
      AreReported (xs ++ x ∷ []) (text ++ text_of (fault_section x reasons))

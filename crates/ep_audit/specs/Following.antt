-- Why a generation of a chain has no verdict, step by step.
use Rattle.std.specs.Prelude.{◌≡◌, ℕ, suc, Some, None}
use Rattle.ep_journal.specs.Entries.{journals_of}
use Rattle.ep_journal.specs.Openings.{opens}
use Rattle.ep_audit.specs.Faults.{fault_of}
use Rattle.ep_audit.specs.declared.audit_fault.AuditFault.{AuditFault}
use Rattle.ep_audit.specs.declared.chain_fault.ChainFault.{ChainFault}
use Rattle.ep_audit.specs.declared.chain_fault.ChainFault.TheVariants.{Audit, NotClosed}
use Rattle.ep_audit.specs.declared.closing.Closing.{Closing}
use Rattle.ep_rules.specs.Audits.{IsFault}
use Rattle.ep_audit.specs.declared.verdict.Verdict.{Verdict}
use Rattle.ep_audit.specs.Chained.{IsGood, IsParted}
use Rattle.ep_audit.specs.declared.chain_verdict_fault.ChainVerdictFault.{ChainVerdictFault}
use Rattle.ep_audit.specs.declared.chain_verdict_fault.ChainVerdictFault.TheVariants.{Memory, Fault}
use Rattle.ep_audit.specs.declared.chain_link.ChainLink.{ChainLink}

-- the fault is what its own audit finds
pub record IsOwnFault (l : ChainLink) (fault : ChainFault) : Type 0 where
  pub found : AuditFault
  pub is : fault ≡ Audit found
  pub refuses : IsFault (opens l.journals.opening) l.journals.faults (journals_of l.journals) l.receipts.items (fault_of found)

-- its own audit refuses it, at this place
abbrev pub IsUnjudged : ChainLink → ℕ → ChainVerdictFault → Type 0
IsUnjudged l place Memory = Unit {0}
IsUnjudged l place (Fault at fault) = (at ≡ place) × IsOwnFault l fault

pub data IsUnfollowedBy (p : ChainLink) (v : Verdict) (l : ChainLink) (place at : ℕ) (fault : ChainFault) : Type 0 where
  left_open : v.closing ≡ None → suc at ≡ place → fault ≡ NotClosed → IsUnfollowedBy p v l place at fault
  refused_by : (c : Closing) → v.closing ≡ Some c → at ≡ place → IsOwnFault l fault → IsUnfollowedBy p v l place at fault
  parted_by : (c : Closing) → v.closing ≡ Some c → at ≡ place → IsGood l → IsParted p v c l fault → IsUnfollowedBy p v l place at fault

-- that one before has no seal, it is refused, or it doesn't go on
abbrev pub IsUnfollowed : ChainLink → Verdict → ChainLink → ℕ → ChainVerdictFault → Type 0
IsUnfollowed p v l place Memory = Unit {0}
IsUnfollowed p v l place (Fault at fault) = IsUnfollowedBy p v l place at fault

-- What an audit says of journals that were upgraded.
use Rattle.std.specs.Prelude.{◌≡◌, ◌↔◌, ℕ, List}
use Rattle.ep_base.specs.declared.reply.Answer.{Answer}
use Rattle.ep_journal.specs.Entries.{Collected, journals_of}
use Rattle.ep_journal.specs.Openings.{opens}
use Rattle.ep_journal.specs.Upgrading.{IsUpgraded}
use Rattle.ep_rules.specs.Audits.{Fault, IsAccepted, IsFault}
use Rattle.ep_rules.specs.Journals.{Scheduled, IsSchedule}
use Rattle.ep_rules.specs.Verdicts.{agreed, command_at, IsReply}
use Rattle.ep_rules.specs.declared.receipt.Receipt.{Receipt}
use Rattle.ep_audit.specs.Verdicts.{IsVerdict}
use Rattle.ep_audit.specs.declared.verdict.Verdict.{Verdict}
use Rattle.ep_audit.specs.Audited.{IsOneHistory}

-- Of both journals the audit says the same, with any receipts.
pub record SaysTheSame (c c' : Collected) : Type 0 where
  -- it accepts both or neither
  pub accepted : (receipts : List Receipt) → IsAccepted (opens c.opening) c.faults (journals_of c) receipts ↔ IsAccepted (opens c'.opening) c'.faults (journals_of c') receipts
  -- they have the same first fault
  pub fault :
      (receipts : List Receipt) (fault : Fault) → IsFault (opens c.opening) c.faults (journals_of c) receipts fault ↔ IsFault (opens c'.opening) c'.faults (journals_of c') receipts fault
  -- their entries stand in one order, but for their frames' bytes
  pub schedule : (schedule : List Scheduled) → IsSchedule (journals_of c) schedule ↔ IsSchedule (journals_of c') schedule
  -- they commit the same in each instance
  pub committed : (i : ℕ) → agreed (opens c'.opening) c'.faults (journals_of c') i ≡ agreed (opens c.opening) c.faults (journals_of c) i
  -- they have one history
  pub command : (i : ℕ) → command_at (opens c'.opening) c'.faults (journals_of c') i ≡ command_at (opens c.opening) c.faults (journals_of c) i
  pub history :
      (receipts : List Receipt) (schedule : List Scheduled) (h : List ℕ) →
      IsOneHistory (opens c.opening) c.faults (journals_of c) receipts schedule h ↔ IsOneHistory (opens c'.opening) c'.faults (journals_of c') receipts schedule h
  -- and each reply in it is the same
  pub reply :
      (h : List ℕ) (i : ℕ) (x : Answer) →
      IsReply (opens c.opening) (command_at (opens c.opening) c.faults (journals_of c)) h i x ↔ IsReply (opens c'.opening) (command_at (opens c'.opening) c'.faults (journals_of c')) h i x
  -- so a verdict of the one is one of the other
  pub verdict : (v : Verdict) → IsVerdict (opens c.opening) c.faults (journals_of c) v ↔ IsVerdict (opens c'.opening) c'.faults (journals_of c') v

-- of journals and of those that they become in version 2
abbrev pub UpgradedSaysTheSame : Type 0
UpgradedSaysTheSame = (c c' : Collected) → IsUpgraded c c' → SaysTheSame c c'

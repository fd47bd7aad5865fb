-- What is reported of bytes that are to be a bundle or a script.
use Rattle.std.specs.Prelude.{◌≡◌, ℕ, Bool, true, false, List, [], ◌∷◌, ◌++◌, Ok, Err, codes}
use Rattle.ep_bundle.specs.Journals.{Contents, ReadsBundle}
use Rattle.ep_bundle.specs.Reading.{Left}
use Rattle.ep_bundle.specs.Texts.{fault_text as refusal_text}
use Rattle.ep_bundle.specs.declared.bundle_fault.BundleFault.{BundleFault}
use Rattle.ep_bundle.specs.declared.bundle_fault.BundleFault.TheVariants.{Memory, ReadFailed, BadBundle, NotARun}
use Rattle.ep_ending.specs.Endings.{AddsEndings}
use Rattle.ep_journal.specs.Entries.{Collected, journals_of}
use Rattle.ep_journal.specs.Openings.{opens}
use Rattle.ep_report.specs.Reports.{text_of}
use Rattle.ep_audit.specs.declared.audit_fault.AuditFault.{AuditFault}
use Rattle.ep_rules.specs.declared.receipt.Receipt.{Receipt}
use Rattle.ep_view.specs.Editions.{edition_line}
use Rattle.ep_audit.specs.Listed.{all_faults, IsFirst}
use Rattle.ep_explain.specs.Advice.{IsAdvice, refused_at}
use Rattle.ep_explain.specs.Magic.{HasMagic}
use Rattle.ep_explain.specs.Reasons.{section}
use Rattle.ep_explain.specs.declared.subcommand.Subcommand.{Subcommand}
use Rattle.ep_explain.specs.Sections.{AreReported}
use Rattle.ep_explain.specs.declared.finding.Finding.{Finding}
use Rattle.ep_explain.specs.declared.finding.Finding.TheVariants.{Accepted, Refused, Unreadable, Script}

-- a fault of the bytes themselves
abbrev pub IsNoBundle : BundleFault → Type 0
IsNoBundle Memory = ⊥
IsNoBundle ReadFailed = ⊥
IsNoBundle (BadBundle field) = Unit {0}
IsNoBundle (NotARun replica entry) = Unit {0}

-- the reader's fault, with its reasons
pub record IsRefusalReported (e : BundleFault) (finding : Finding) (text : List ℕ) : Type 0 where
  pub found : finding ≡ Unreadable
  pub reasons : List (List ℕ)
  pub reported : text ≡ text_of (section (refusal_text e) reasons)

-- the verdict of these faults, which are all that there are, the line of the edition, and then each of them; or what would end what is open, where there are none
abbrev pub IsVerdictReported : Collected → List AuditFault → Finding → List ℕ → Type 0
IsVerdictReported c [] finding text = (finding ≡ Accepted) × AddsEndings c (text_of (codes "verdict accepted" ∷ []) ++ edition_line c.version c.opening) text
IsVerdictReported c (x ∷ xs) finding text =
    (finding ≡ Refused) × (reported : List ℕ) × AreReported (x ∷ xs) reported × (text ≡ text_of (codes "verdict refused" ∷ []) ++ edition_line c.version c.opening ++ reported)

-- all faults of the journals and the receipts are reported, of which the first is the audit's; where there are none, it accepts
pub record IsJudged (c : Collected) (ts : List Receipt) (finding : Finding) (text : List ℕ) : Type 0 where
  pub first : IsFirst (opens c.opening) c.faults (journals_of c) ts (all_faults c ts)
  pub reported : IsVerdictReported c (all_faults c ts) finding text

-- the bytes, none of which is read yet
abbrev pub unread : List ℕ → Left
unread bytes = record { at = 0; bytes = bytes }

abbrev pub script_finding : Bool → Finding
script_finding true = Script
script_finding false = Unreadable

-- what is reported of bytes that are taken for a script for this subcommand
pub record IsScriptReported (bytes : List ℕ) (subcommand : Subcommand) (finding : Finding) (text : List ℕ) : Type 0 where
  pub is_read : Bool
  pub advice : IsAdvice subcommand (refused_at subcommand bytes) is_read text
  pub found : finding ≡ script_finding is_read

pub data IsExplained (bytes : List ℕ) (finding : Finding) (text : List ℕ) : Type 0 where
  -- they are no bundle
  unreadable : (e : BundleFault) → ReadsBundle (unread bytes) (Err e) → IsRefusalReported e finding text → IsExplained bytes finding text
  -- they are a bundle
  read : (c : Contents) (rest : Left) → ReadsBundle (unread bytes) (Ok (c, rest)) → IsJudged c.0 c.1 finding text → IsExplained bytes finding text
  -- they don't begin as a bundle does, and are taken for a script for this subcommand
  script : (subcommand : Subcommand) → (¬ HasMagic bytes) → IsScriptReported bytes subcommand finding text → IsExplained bytes finding text

-- Audits of chains: of bundles, and of files with names. No contract can say which bytes a file gives.
use Rattle.std.specs.Prelude.{◌≡◌, ◌⊎◌, ℕ, List, [], ◌∷◌, ◌++◌, Option, Some, None, true, All, Contains, Ok, Err, codes, length, slice_get}
use Rattle.ep_cli.specs.Files.{unread_line, IsUnreadLine, IsUnreadOf}
use Rattle.ep_cli.specs.declared.files_fault.FilesFault.{FilesFault}
use Rattle.ep_cli.specs.declared.files_fault.FilesFault.TheVariants as files
use Rattle.ep_audit.specs.Chained.{IsChained, IsChainFault, number_of}
use Rattle.ep_audit.specs.declared.chain_link.ChainLink.{ChainLink}
use Rattle.ep_bundle.specs.Journals.{Contents, ReadsBundleOf}
use Rattle.ep_bundle.specs.Reading.{Left, Reading}
use Rattle.ep_bundle.specs.Texts.{fault_text}
use Rattle.ep_bundle.specs.declared.bundle_fault.BundleFault.{BundleFault}
use Rattle.ep_bundle.specs.declared.bundle_fault.BundleFault.TheVariants as bundle
use Rattle.ep_report.specs.Lives.{Life, link_line}
use Rattle.ep_report_json.specs.Chains.{chain_json}
use Rattle.ep_audit.specs.declared.chain_fault.ChainFault.{ChainFault}
use Rattle.ep_audit.specs.Verdicts.{summary_of}
use Rattle.ep_audit.specs.declared.verdict.Verdict.{Verdict}
use Rattle.ep_cli.specs.Lines.{writing_failed}
use Rattle.ep_device.specs.declared.system_fault.SystemFault.{SystemFault}
use Rattle.ep_report.specs.Lives.{life_in}
use Rattle.ep_main.specs.Forms.{chain_refusal_in}
use Rattle.ep_main.specs.declared.form.Form.{Form}
use Rattle.ep_main.specs.declared.form.Form.TheVariants.{Lines, Json}
use Rattle.ep_cli.specs.Endings.{IsOutOfMemory, TurnsAway}
use Rattle.ep_cli.specs.Outputs.{Output, Reported, Wrote, WroteNothing}
use Rattle.ep_cli.specs.declared.status.Status.{Status}
use Rattle.ep_cli.specs.declared.status.Status.TheVariants.{Done, AuditRefused, Refused, OutOfMemory, Failed}

-- Bundles of version 3.

-- what the bytes are as one of them
abbrev pub ReadsLate : List ℕ → Reading Contents → Type 0
ReadsLate zs o = ReadsBundleOf 3 3 (record { at = 0; bytes = zs }) o

-- the bytes are one, of these journals and receipts
abbrev pub IsLinkOf : List ℕ → ChainLink → Type 0
IsLinkOf zs l = (end : Left) × ReadsLate zs (Ok ((l.journals, l.receipts.items), end))

-- each was read of some bytes
abbrev pub AreRead : List ChainLink → Type 0
AreRead links = All (λ (l : ChainLink). (zs : List ℕ) × IsLinkOf zs l) links

-- the line of a file that isn't one
abbrev pub file_line : List ℕ → BundleFault → List ℕ
file_line name fault = fault_text fault ++ codes " in " ++ name ++ codes "\n"

-- the fault is of the bytes
abbrev pub IsOfBytes : BundleFault → Type 0
IsOfBytes bundle.Memory = ⊥
IsOfBytes bundle.ReadFailed = ⊥
IsOfBytes (bundle.BadBundle field) = Unit {0}
IsOfBytes (bundle.NotARun replica entry) = Unit {0}

-- The line is that of a file of this name, which gave bytes that aren't one, for this first fault.
pub record IsBadFile (name zs line : List ℕ) : Type 0 where
  pub fault : BundleFault
  pub of : IsOfBytes fault
  pub read : ReadsLate zs (Err fault)
  pub reported : line ≡ file_line name fault

-- why there is none in these bytes of a file of this name
abbrev pub IsNoLink : List ℕ → List ℕ → FilesFault → Type 0
IsNoLink name zs files.Memory = Unit {0}
IsNoLink name zs (files.ReadFailed line) = ⊥
IsNoLink name zs (files.Refused line) = IsBadFile name zs line.items

-- why a file of this name isn't one
abbrev pub IsNoFile : List ℕ → FilesFault → Type 0
IsNoFile name files.Memory = Unit {0}
IsNoFile name (files.ReadFailed line) = IsUnreadOf name line.items
IsNoFile name (files.Refused line) = (zs : List ℕ) × IsBadFile name zs line.items

-- why one of the files of these names isn't one
abbrev pub IsStopped : List (List ℕ) → FilesFault → Type 0
IsStopped names files.Memory = Unit {0}
IsStopped names (files.ReadFailed line) = IsUnreadLine names line.items
IsStopped names (files.Refused line) = (name : List ℕ) × (zs : List ℕ) × Contains names name × IsBadFile name zs line.items

-- What the audit says.

abbrev pub life_text : Option Life → Verdict → List ℕ
life_text None v = []
life_text (Some life) v = link_line life (length v.committed.items) (length v.history.items) ++ codes "\n"

-- the line of a generation
abbrev pub link_text : ChainLink → Verdict → List ℕ
link_text l v = life_text (life_in l.journals (summary_of v)) v

abbrev pub links_text : List ChainLink → List Verdict → List ℕ
links_text [] vs = []
links_text (l ∷ ls) [] = []
links_text (l ∷ ls) (v ∷ vs) = link_text l v ++ links_text ls vs

abbrev pub chain_text : List ChainLink → List Verdict → List ℕ
chain_text ls vs = codes "verdict accepted\n" ++ links_text ls vs

-- what is said of a chain that is accepted
abbrev pub chain_in : Form → List ChainLink → List Verdict → List ℕ
chain_in Lines ls vs = chain_text ls vs
chain_in Json ls vs = chain_json ls vs

-- The first fault of these, and what is said of it.
pub record IsFaultText (form : Form) (links : List ChainLink) (text : List ℕ) : Type 0 where
  pub place : ℕ
  pub fault : ChainFault
  pub refused : IsChainFault links place fault
  pub link : ChainLink
  pub there : slice_get links place ≡ Some link
  pub reported : text ≡ chain_refusal_in form (number_of link) fault

-- the audit accepts, and the text has a line for each; or it refuses, and the text is that of the first fault
abbrev pub SaysOfChain : Form → List ChainLink → Status → List ℕ → Type 0
SaysOfChain form links Done text = (verdicts : List Verdict) × IsChained links verdicts × (text ≡ chain_in form links verdicts)
SaysOfChain form links AuditRefused text = IsFaultText form links text
SaysOfChain form links Refused text = ⊥
SaysOfChain form links OutOfMemory text = ⊥
SaysOfChain form links Failed text = ⊥

-- What was written is what the audit says of them.
pub record IsReportedChain (form : Form) (links : List ChainLink) (status : Status) (out fault : Output) : Type 0 where
  pub text : List ℕ
  pub says : SaysOfChain form links status text
  pub wrote : Wrote out text
  pub silent : WroteNothing fault

-- of these bundles, by the status
abbrev pub Chains : Form → List ChainLink → Status → Output → Output → Type 0
Chains form links Done out fault = IsReportedChain form links Done out fault
Chains form links AuditRefused out fault = IsReportedChain form links AuditRefused out fault
Chains form links Refused out fault = ⊥
Chains form links OutOfMemory out fault = IsOutOfMemory out fault
Chains form links Failed out fault = (out.failed ≡ true) × Reported fault writing_failed

-- the text was written, and that is the status; or the output has failed, which is reported
abbrev pub IsWritten : Status → List ℕ → Status → Output → Output → Type 0
IsWritten status text result out fault =
    ((result ≡ status) × Wrote out text × (out.failed ≡ out.had_failed) × WroteNothing fault × (fault.failed ≡ fault.had_failed))
    ⊎ ((result ≡ Failed) × (out.failed ≡ true) × Reported fault writing_failed)

-- Each file is a bundle, and this became of them.
pub record AreChained (form : Form) (names : List (List ℕ)) (status : Status) (out fault : Output) : Type 0 where
  pub links : List ChainLink
  pub count : length links ≡ length names
  pub read : AreRead links
  pub chains : Chains form links status out fault

-- A file isn't one, or memory was refused, which is reported, and nothing was written on the output.
pub record AreStopped (names : List (List ℕ)) (status : Status) (out fault : Output) : Type 0 where
  pub why : FilesFault
  pub of : IsStopped names why
  pub silent : WroteNothing out
  pub reported : TurnsAway why status fault

-- of files with these names
abbrev pub ChainsFiles : Form → List (List ℕ) → Status → Output → Output → Type 0
ChainsFiles form names status out fault = AreChained form names status out fault ⊎ AreStopped names status out fault

-- whatever the files hold: the status is that of a failure exactly where the output failed in this run, or a file isn't read, and the line says which, and why
abbrev pub EndsOfFiles : Status → Output → Output → Type 0
EndsOfFiles Done out fault = (out.failed ≡ out.had_failed) × (fault.failed ≡ fault.had_failed)
EndsOfFiles AuditRefused out fault = (out.failed ≡ out.had_failed) × (fault.failed ≡ fault.had_failed)
EndsOfFiles Refused out fault = out.failed ≡ out.had_failed
EndsOfFiles OutOfMemory out fault = out.failed ≡ out.had_failed
EndsOfFiles Failed out fault = ((out.failed ≡ true) × Reported fault writing_failed) ⊎ ((out.failed ≡ out.had_failed) × ((name : List ℕ) × (cause : SystemFault) × Reported fault (unread_line name cause)))

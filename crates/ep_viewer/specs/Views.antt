-- What the program does, of the bytes zs that it reads, its output and its fault output.
use Rattle.std.specs.Prelude.{◌≡◌, ℕ, List, Result, Ok, Err, codes, string_bytes}
use Rattle.ep_bundle.specs.Journals.{ReadsBundle}
use Rattle.ep_bundle.specs.Reading.{Left}
use Rattle.ep_bundle.specs.declared.bundle_fault.BundleFault.TheVariants as bundle
use Rattle.ep_explain.specs.Explained.{IsExplained}
use Rattle.ep_explain.specs.declared.finding.Finding.{Finding}
use Rattle.ep_journal.specs.Entries.{Collected}
use Rattle.ep_rules.specs.declared.receipt.Receipt.{Receipt}
use Rattle.ep_script.specs.Plan.{Plan, script_of}
use Rattle.ep_trace.specs.Traced.{IsTraced}
use Rattle.ep_view.specs.Graphs.{IsGraph}
use Rattle.ep_view.specs.Pages.{IsPage}
use Rattle.ep_view.specs.Sequences.{IsSequence}
use Rattle.ep_view.specs.Shown.{IsShown}
use Rattle.ep_view.specs.TraceFiles.{IsTraceFile}
use Rattle.ep_view.specs.Wanted.{part_of}
use Rattle.ep_view.specs.declared.selection.Selection.{Selection}
use Rattle.ep_viewer.specs.declared.parts.TheConstants.{HEAD, TAIL}
use Rattle.ep_base.specs.Devices.{FailsAsReported}
use Rattle.ep_viewer.specs.Faults.{line_of, status_of, status_found, is_read, is_write}
use Rattle.ep_cli.specs.Outputs.{Input, Output, Wrote, WroteNothing, Reported}
use Rattle.ep_viewer.specs.declared.viewer_asked.ViewerAsked.{ViewerAsked}
use Rattle.ep_viewer.specs.declared.viewer_asked.ViewerAsked.TheVariants.{View as OfBundle, Trace, Explain, Version, Help}
use Rattle.ep_viewer.specs.declared.view.View.{View}
use Rattle.ep_viewer.specs.declared.view.View.TheVariants.{Show, Columns, Page, Sequence, Graph, Events}
use Rattle.ep_viewer.specs.declared.viewer_fault.ViewerFault.{ViewerFault}
use Rattle.ep_viewer.specs.declared.viewer_fault.ViewerFault.TheVariants.{Script, BadBundle, NotARun, Memory, Read, Write}
use Rattle.ep_cli.specs.declared.status.Status.{Status}
use Rattle.ep_cli.specs.declared.status.Status.TheVariants.{Done}

-- The bytes are one bundle, and this was written of its journals.
pub record IsView (Displays : Collected → List ℕ → Type 0) (zs : List ℕ) (out : Output) : Type 0 where
  pub journals : Collected
  pub receipts : List Receipt
  pub end : Left
  pub read : ReadsBundle (record { at = 0; bytes = zs }) (Ok ((journals, receipts), end))
  pub text : List ℕ
  pub reports : Displays journals text
  pub wrote : Wrote out text

-- a bundle is viewed, or is refused, and then nothing is written
abbrev pub Views : (Collected → List ℕ → Type 0) → Result Status ViewerFault → List ℕ → Output → Type 0
Views Displays (Ok status) zs out = (status ≡ Done) × IsView Displays zs out
Views Displays (Err (Script line)) zs out = ⊥
Views Displays (Err (BadBundle field)) zs out = ReadsBundle (record { at = 0; bytes = zs }) (Err (bundle.BadBundle field)) × WroteNothing out
Views Displays (Err (NotARun replica entry)) zs out = ReadsBundle (record { at = 0; bytes = zs }) (Err (bundle.NotARun replica entry)) × WroteNothing out
Views Displays (Err Memory) zs out = WroteNothing out
Views Displays (Err Read) zs out = WroteNothing out
Views Displays (Err Write) zs out = Unit {0}

-- The bytes are a script, and what was written is its trace.
pub record IsTrace (zs : List ℕ) (out : Output) : Type 0 where
  pub plan : Plan
  pub script : script_of zs ≡ Ok plan
  pub text : List ℕ
  pub trace : IsTraced plan text
  pub wrote : Wrote out text

-- a script is traced, or is refused, and then nothing is written
abbrev pub Traces : Result Status ViewerFault → List ℕ → Output → Type 0
Traces (Ok status) zs out = (status ≡ Done) × IsTrace zs out
Traces (Err (Script line)) zs out = (script_of zs ≡ Err line) × WroteNothing out
Traces (Err (BadBundle field)) zs out = ⊥
Traces (Err (NotARun replica entry)) zs out = ⊥
Traces (Err Memory) zs out = WroteNothing out
Traces (Err Read) zs out = WroteNothing out
Traces (Err Write) zs out = Unit {0}

abbrev pub Prints : Result Status ViewerFault → List ℕ → Output → Type 0
Prints (Ok status) text out = (status ≡ Done) × Wrote out text
Prints (Err (Script line)) text out = ⊥
Prints (Err (BadBundle field)) text out = ⊥
Prints (Err (NotARun replica entry)) text out = ⊥
Prints (Err Memory) text out = ⊥
Prints (Err Read) text out = ⊥
Prints (Err Write) text out = Unit {0}

-- What was written says what the reader of scripts finds of the bytes, or why they are no bundle, or what an audit finds of the bundle that they
-- are; the status says which.
pub record IsExplanation (status : Status) (zs : List ℕ) (out : Output) : Type 0 where
  pub finding : Finding
  pub text : List ℕ
  pub explained : IsExplained zs finding text
  pub is : status ≡ status_found finding
  pub wrote : Wrote out text

-- the bytes are explained
abbrev pub Explains : Result Status ViewerFault → List ℕ → Output → Type 0
Explains (Ok status) zs out = IsExplanation status zs out
Explains (Err (Script line)) zs out = ⊥
Explains (Err (BadBundle field)) zs out = ⊥
Explains (Err (NotARun replica entry)) zs out = ⊥
Explains (Err Memory) zs out = WroteNothing out
Explains (Err Read) zs out = WroteNothing out
Explains (Err Write) zs out = Unit {0}

-- a page with the program's own fixed parts
unfoldable pub IsOwnPage : Collected → Selection → List ℕ → Type 0
IsOwnPage journals part text = IsPage HEAD.now TAIL.now journals part text

-- what is reported of a bundle's journals; of columns nothing is promised
abbrev pub Displays : View → Collected → List ℕ → Type 0
Displays (Show wanted) journals text = IsShown journals (part_of journals wanted) text
Displays (Columns wanted) journals text = Unit {0}
Displays (Page wanted) journals text = IsOwnPage journals (part_of journals wanted) text
Displays (Sequence wanted) journals text = IsSequence journals (part_of journals wanted) text
Displays (Graph wanted) journals text = IsGraph journals (part_of journals wanted) text
Displays (Events wanted) journals text = IsTraceFile journals (part_of journals wanted) text

abbrev pub Does : ViewerAsked → Result Status ViewerFault → List ℕ → Output → Type 0
Does (OfBundle view) outcome zs out = Views (Displays view) outcome zs out
Does Explain outcome zs out = Explains outcome zs out
Does Trace outcome zs out = Traces outcome zs out
Does Version outcome zs out = Prints outcome (codes "epaxos 1.0.0\n") out
Does (Help text) outcome zs out = Prints outcome (string_bytes text) out

-- a fault is reported, and decides on the status
abbrev pub Concludes : Result Status ViewerFault → Status → Output → Type 0
Concludes (Ok found) status fault = (status ≡ found) × WroteNothing fault
Concludes (Err e) status fault = (status ≡ status_of e) × Reported fault (line_of e)

-- what was asked for was done, or why it wasn't is reported; the input and the output failed where the outcome says so, and nowhere else
pub record Performs (asked : ViewerAsked) (status : Status) (zs : List ℕ) (reader : Input) (out fault : Output) : Type 0 where
  pub outcome : Result Status ViewerFault
  pub does : Does asked outcome zs out
  pub concludes : Concludes outcome status fault
  pub read : FailsAsReported is_read outcome reader.had_failed reader.failed
  pub written : FailsAsReported is_write outcome out.had_failed out.failed

-- What the program does, by the status that it answers: of the bytes zs that it reads, its reader, its output and its fault output.
use Rattle.std.specs.Prelude.{◌≡◌, ◌⊎◌, ◌++◌, ℕ, true, List, Result, Ok, Err, codes, string_bytes}
use Rattle.ep_bundle.specs.declared.bad_field.BadField.{BadField}
use Rattle.ep_bundle.specs.declared.bundle_fault.BundleFault.{BundleFault}
use Rattle.ep_bundle.specs.declared.bundle_fault.BundleFault.TheVariants as bundle
use Rattle.ep_script.specs.Plan.{Plan, RunPlan, script_of, run_of}
use Rattle.ep_main.specs.Audits.{IsAudit, SaysOfRun}
use Rattle.ep_main.specs.Bundled.{IsBundled}
use Rattle.ep_cli.specs.Lines.{command_line_refused, script_refused, bad_bundle, not_a_run, reading_failed, writing_failed}
use Rattle.ep_main.specs.Faults.{line_of, status_of}
use Rattle.ep_main.specs.Hosts.{Promises}
use Rattle.ep_main.specs.Options.{Options}
use Rattle.ep_cli.specs.Endings.{IsOutOfMemory}
use Rattle.ep_cli.specs.Outputs.{Input, Output, Wrote, WroteNothing, Reported, NoneFailed, InputFailed, OutputFailed}
use Rattle.ep_main.specs.ScriptReports.{IsReport}
use Rattle.ep_main.specs.Upgrades.{IsUnread, IsRewritten, IsUnupgraded}
use Rattle.ep_main.specs.declared.asked.Asked.{Asked}
use Rattle.ep_main.specs.declared.asked.Asked.TheVariants.{Replay, Run, Audit, Upgrade, Version, Help}
use Rattle.ep_main.specs.declared.asked.Emit.TheVariants.{Report, Bundle}
use Rattle.ep_main.specs.declared.form.Form.{Form}
use Rattle.ep_main.specs.declared.host.Host.{Host}
use Rattle.ep_main.specs.declared.target.Target.{Target}
use Rattle.ep_main.specs.declared.host.Host.TheVariants.{Lock, Ring}
use Rattle.ep_run.specs.Rings.{IsBegun, begun_of}
use Rattle.ep_run.specs.declared.ran.Ran.{Ran}
use Rattle.ep_main.specs.declared.engine_fault.EngineFault.{EngineFault}
use Rattle.ep_main.specs.declared.engine_fault.EngineFault.TheVariants.{Script, BadBundle, NotARun, Memory, Read, Write}
use Rattle.ep_cli.specs.declared.status.Status.{Status}
use Rattle.ep_cli.specs.declared.status.Status.TheVariants.{Done, AuditRefused, Refused, OutOfMemory, Failed}

-- The bytes are a script, and what was written is its report.
pub record IsReplayed (form : Form) (zs : List ℕ) (out : Output) : Type 0 where
  pub plan : Plan
  pub script : script_of zs ≡ Ok plan
  pub text : List ℕ
  pub report : IsReport form plan text
  pub wrote : Wrote out text

-- The bytes are a script for threads, and what was written is what the audit says of the journals and receipts that they left; of these the host keeps
-- what it promises.
pub record IsRan (options : Options) (status : Status) (zs : List ℕ) (out : Output) : Type 0 where
  pub plan : RunPlan
  pub script : run_of zs ≡ Ok plan
  pub ran : Ran
  -- the journals are of the script's version, and have its opening
  pub begun : IsBegun (begun_of plan.head) ran.finished.journals
  pub promised : Promises options.host options.turns plan.sections ran
  pub text : List ℕ
  pub says : SaysOfRun options.emit ran status text
  pub wrote : Wrote out text

-- the audit refuses what a run left, as it may behind locks alone
abbrev pub IsRefusedRun : Host → Options → List ℕ → Output → Type 0
IsRefusedRun Lock options zs out = IsRan options AuditRefused zs out
IsRefusedRun Ring options zs out = ⊥

-- The bytes are no script, as they are read here: their first line at fault is reported, and nothing was written on the output.
pub record IsScriptRefused {P : Type 0} (read : Result P ℕ) (out fault : Output) : Type 0 where
  pub line : ℕ
  pub script : read ≡ Err line
  pub silent : WroteNothing out
  pub reported : Reported fault (script_refused line)

-- There is no bundle, for a first field at fault: it is reported, and nothing was written on the output.
pub record IsBadBundle (Q : BundleFault → Type 0) (out fault : Output) : Type 0 where
  pub field : BadField
  pub read : Q (bundle.BadBundle field)
  pub silent : WroteNothing out
  pub reported : Reported fault (bad_bundle field.at)

-- There is no bundle, for a first entry that isn't its replica's next step: it is reported, and nothing was written on the output.
pub record IsNotARun (Q : BundleFault → Type 0) (out fault : Output) : Type 0 where
  pub replica : ℕ
  pub entry : ℕ
  pub read : Q (bundle.NotARun replica entry)
  pub silent : WroteNothing out
  pub reported : Reported fault (not_a_run replica entry)

-- The reader has failed, and nothing was written on the output; or the output has failed.
abbrev pub HasFailed : Input → Output → Output → Type 0
HasFailed reader out fault = (InputFailed reader out × WroteNothing out × Reported fault reading_failed) ⊎ (OutputFailed reader out × Reported fault writing_failed)

-- a replay, of which a report is asked for: the audit refuses none
abbrev pub Replays : Form → Status → List ℕ → Input → Output → Output → Type 0
Replays form Done zs reader out fault = IsReplayed form zs out × WroteNothing fault
Replays form AuditRefused zs reader out fault = ⊥
Replays form Refused zs reader out fault = IsScriptRefused (script_of zs) out fault
Replays form OutOfMemory zs reader out fault = IsOutOfMemory out fault
Replays form Failed zs reader out fault = HasFailed reader out fault

-- a replay, of which the bundle is asked for: the audit refuses none
abbrev pub Emits : Status → List ℕ → Input → Output → Output → Type 0
Emits Done zs reader out fault = IsBundled zs out × WroteNothing fault
Emits AuditRefused zs reader out fault = ⊥
Emits Refused zs reader out fault = IsScriptRefused (script_of zs) out fault
Emits OutOfMemory zs reader out fault = IsOutOfMemory out fault
Emits Failed zs reader out fault = HasFailed reader out fault

-- a run in threads, as it is asked for
abbrev pub RunsInThreads : Options → Status → List ℕ → Input → Output → Output → Type 0
RunsInThreads options Done zs reader out fault = IsRan options Done zs out × WroteNothing fault
RunsInThreads options AuditRefused zs reader out fault = IsRefusedRun options.host options zs out × WroteNothing fault
RunsInThreads options Refused zs reader out fault = IsScriptRefused (run_of zs) out fault
RunsInThreads options OutOfMemory zs reader out fault = IsOutOfMemory out fault
RunsInThreads options Failed zs reader out fault = HasFailed reader out fault

-- an audit of a bundle
abbrev pub Audits : Form → Status → List ℕ → Input → Output → Output → Type 0
Audits form Done zs reader out fault = IsAudit form Done zs out × WroteNothing fault
Audits form AuditRefused zs reader out fault = IsAudit form AuditRefused zs out × WroteNothing fault
Audits form Refused zs reader out fault = IsBadBundle (IsUnread zs) out fault ⊎ IsNotARun (IsUnread zs) out fault
Audits form OutOfMemory zs reader out fault = IsOutOfMemory out fault
Audits form Failed zs reader out fault = HasFailed reader out fault

-- an upgrade of a bundle to this version: it doesn't audit
abbrev pub Upgrades : Target → Status → List ℕ → Input → Output → Output → Type 0
Upgrades target Done zs reader out fault = IsRewritten target zs out × WroteNothing fault
Upgrades target AuditRefused zs reader out fault = ⊥
Upgrades target Refused zs reader out fault = IsBadBundle (IsUnupgraded target zs) out fault ⊎ IsNotARun (IsUnupgraded target zs) out fault
Upgrades target OutOfMemory zs reader out fault = IsOutOfMemory out fault
Upgrades target Failed zs reader out fault = HasFailed reader out fault

-- the program's name and its version
abbrev pub version_line : List ℕ
version_line = codes "epaxos 1.0.0\n"

-- the version
abbrev pub Versions : Status → Output → Output → Type 0
Versions Done out fault = Wrote out version_line × WroteNothing fault
Versions AuditRefused out fault = ⊥
Versions Refused out fault = ⊥
Versions OutOfMemory out fault = IsOutOfMemory out fault
Versions Failed out fault = (out.failed ≡ true) × Reported fault writing_failed

-- help, with this text
abbrev pub Helps : Status → List ℕ → Output → Output → Type 0
Helps Done text out fault = Wrote out text × WroteNothing fault
Helps AuditRefused text out fault = ⊥
Helps Refused text out fault = ⊥
Helps OutOfMemory text out fault = ⊥
Helps Failed text out fault = (out.failed ≡ true) × Reported fault writing_failed

-- help, with some text
abbrev pub IsHelped : Status → Output → Output → Type 0
IsHelped Done out fault = ((text : List ℕ) × Wrote out text) × WroteNothing fault
IsHelped AuditRefused out fault = ⊥
IsHelped Refused out fault = ⊥
IsHelped OutOfMemory out fault = IsOutOfMemory out fault
IsHelped Failed out fault = (out.failed ≡ true) × Reported fault writing_failed

abbrev pub Performs : Asked → Status → List ℕ → Input → Output → Output → Type 0
Performs (Replay (Report form)) status zs reader out fault = Replays form status zs reader out fault
Performs (Replay Bundle) status zs reader out fault = Emits status zs reader out fault
Performs (Run options) status zs reader out fault = RunsInThreads options status zs reader out fault
Performs (Audit form) status zs reader out fault = Audits form status zs reader out fault
Performs (Upgrade target) status zs reader out fault = Upgrades target status zs reader out fault
Performs Version status zs reader out fault = Versions status out fault
Performs (Help text) status zs reader out fault = Helps status (string_bytes text) out fault

-- the words ask for nothing that there is, which is reported with what is wrong with them, or memory was refused before they were read
abbrev pub Declines : Status → Output → Output → Type 0
Declines Refused out fault = WroteNothing out × ((why : List ℕ) × Reported fault (command_line_refused ++ why))
Declines OutOfMemory out fault = IsOutOfMemory out fault
Declines Done out fault = ⊥
Declines AuditRefused out fault = ⊥
Declines Failed out fault = ⊥

-- Whatever is asked for and is read: the status is that of a failure exactly where the reader or the output failed in this run, and the line
-- says which of them; and the fault output fails only where a line is reported on it.
abbrev pub Ends : Status → Input → Output → Output → Type 0
Ends Done reader out fault = NoneFailed reader out × (fault.failed ≡ fault.had_failed)
Ends AuditRefused reader out fault = NoneFailed reader out × (fault.failed ≡ fault.had_failed)
Ends Refused reader out fault = NoneFailed reader out
Ends OutOfMemory reader out fault = NoneFailed reader out
Ends Failed reader out fault = (InputFailed reader out × Reported fault reading_failed) ⊎ (OutputFailed reader out × Reported fault writing_failed)

-- a status that says no fault
abbrev pub IsVerdict : Status → Type 0
IsVerdict Done = Unit {0}
IsVerdict AuditRefused = Unit {0}
IsVerdict Refused = ⊥
IsVerdict OutOfMemory = ⊥
IsVerdict Failed = ⊥

-- Before a fault is reported: what was written. Which device failed, the fault says itself.

abbrev pub Plays : Form → Result Status EngineFault → List ℕ → Output → Type 0
Plays form (Ok status) zs out = (status ≡ Done) × IsReplayed form zs out
Plays form (Err (Script line)) zs out = (script_of zs ≡ Err line) × WroteNothing out
Plays form (Err (BadBundle field)) zs out = ⊥
Plays form (Err (NotARun replica entry)) zs out = ⊥
Plays form (Err Memory) zs out = WroteNothing out
Plays form (Err Read) zs out = WroteNothing out
Plays form (Err Write) zs out = Unit {0}

abbrev pub Leaves : Result Status EngineFault → List ℕ → Output → Type 0
Leaves (Ok status) zs out = (status ≡ Done) × IsBundled zs out
Leaves (Err (Script line)) zs out = (script_of zs ≡ Err line) × WroteNothing out
Leaves (Err (BadBundle field)) zs out = ⊥
Leaves (Err (NotARun replica entry)) zs out = ⊥
Leaves (Err Memory) zs out = WroteNothing out
Leaves (Err Read) zs out = WroteNothing out
Leaves (Err Write) zs out = Unit {0}

abbrev pub Runs : Options → Result Status EngineFault → List ℕ → Output → Type 0
Runs options (Ok Done) zs out = IsRan options Done zs out
Runs options (Ok AuditRefused) zs out = IsRefusedRun options.host options zs out
Runs options (Ok Refused) zs out = ⊥
Runs options (Ok OutOfMemory) zs out = ⊥
Runs options (Ok Failed) zs out = ⊥
Runs options (Err (Script line)) zs out = (run_of zs ≡ Err line) × WroteNothing out
Runs options (Err (BadBundle field)) zs out = ⊥
Runs options (Err (NotARun replica entry)) zs out = ⊥
Runs options (Err Memory) zs out = WroteNothing out
Runs options (Err Read) zs out = WroteNothing out
Runs options (Err Write) zs out = Unit {0}

-- what stops the reading of a bundle, where it has such faults
abbrev pub StopsBy : (BundleFault → Type 0) → EngineFault → Output → Type 0
StopsBy Q (Script line) out = ⊥
StopsBy Q (BadBundle field) out = Q (bundle.BadBundle field) × WroteNothing out
StopsBy Q (NotARun replica entry) out = Q (bundle.NotARun replica entry) × WroteNothing out
StopsBy Q Memory out = WroteNothing out
StopsBy Q Read out = WroteNothing out
StopsBy Q Write out = Unit {0}

abbrev pub Finishes : Form → Result Status EngineFault → List ℕ → Output → Type 0
Finishes form (Ok status) zs out = IsAudit form status zs out
Finishes form (Err e) zs out = StopsBy (IsUnread zs) e out

abbrev pub Rewrites : Target → Result Status EngineFault → List ℕ → Output → Type 0
Rewrites target (Ok status) zs out = (status ≡ Done) × IsRewritten target zs out
Rewrites target (Err e) zs out = StopsBy (IsUnupgraded target zs) e out

abbrev pub Prints : Result Status EngineFault → List ℕ → Output → Type 0
Prints (Ok status) text out = (status ≡ Done) × Wrote out text
Prints (Err (Script line)) text out = ⊥
Prints (Err (BadBundle field)) text out = ⊥
Prints (Err (NotARun replica entry)) text out = ⊥
Prints (Err Memory) text out = ⊥
Prints (Err Read) text out = ⊥
Prints (Err Write) text out = Unit {0}

abbrev pub Does : Asked → Result Status EngineFault → List ℕ → Output → Type 0
Does (Replay (Report form)) outcome zs out = Plays form outcome zs out
Does (Replay Bundle) outcome zs out = Leaves outcome zs out
Does (Run options) outcome zs out = Runs options outcome zs out
Does (Audit form) outcome zs out = Finishes form outcome zs out
Does (Upgrade target) outcome zs out = Rewrites target outcome zs out
Does Version outcome zs out = Prints outcome version_line out
Does (Help text) outcome zs out = Prints outcome (string_bytes text) out

-- a fault is reported, and decides on the status
abbrev pub Concludes : Result Status EngineFault → Status → Output → Type 0
Concludes (Ok said) status fault = (status ≡ said) × WroteNothing fault × (fault.failed ≡ fault.had_failed)
Concludes (Err e) status fault = (status ≡ status_of e) × Reported fault (line_of e)

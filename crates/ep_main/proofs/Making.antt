-- What is made of what was read, before it is printed.
use Rattle.std.proofs.Common.{◌≡◌, ℕ, Bool, false, List, Result, Ok, Err, IfOk, IfErr, IsOk, refl, sym, ◌∙◌, ap, subst}
use Rattle.std.specs.Prelude.{◌||◌, IsErrAnd}
use Rattle.ep_base.specs.Devices.{FailsAsReported}
use Rattle.ep_bundle.specs.Reading.{Left}
use Rattle.ep_cli.proofs.Printed.{not_made}
use Rattle.ep_cli.specs.Outputs.{Output, Wrote, WroteNothing}
use Rattle.ep_cli.specs.Printed.{Makes}
use Rattle.ep_cli.specs.declared.made.Made.{Made}
use Rattle.ep_cli.specs.declared.status.Status.TheVariants.{Done}
use Rattle.ep_journal.specs.Entries.{Collected, journals_of}
use Rattle.ep_journal.specs.Openings.{opens}
use Rattle.ep_main.proofs.Bundling.{bundled}
use Rattle.ep_main.proofs.Flags.{run_verdict, says_verdict}
use Rattle.ep_main.proofs.Verdicts.{runs_to, says_as}
use Rattle.ep_main.specs.Audits.{Says, SaysOfRun}
use Rattle.ep_main.specs.Faults.{of_script, is_read, is_write}
use Rattle.ep_main.specs.Hosts.{Promises}
use Rattle.ep_main.specs.Options.{Options}
use Rattle.ep_main.specs.ScriptReports.{IsEmitted}
use Rattle.ep_main.specs.Runs.{Does, IsVerdict}
use Rattle.ep_main.specs.Upgrades.{Reads}
use Rattle.ep_main.specs.declared.asked.Asked.TheVariants.{Replay, Run, Audit}
use Rattle.ep_main.specs.declared.asked.Emit.{Emit}
use Rattle.ep_main.specs.declared.asked.Emit.TheVariants.{Report, Bundle}
use Rattle.ep_main.specs.declared.form.Form.{Form}
use Rattle.ep_main.specs.declared.engine_fault.EngineFault.{EngineFault}
use Rattle.ep_main.specs.declared.engine_fault.EngineFault.TheVariants.{Memory}
use Rattle.ep_replay.specs.Outcome.{IsReplay}
use Rattle.ep_main.specs.Forms.{IsJudgedIn}
use Rattle.ep_replay.specs.declared.replayed.Replayed.{Replayed}
use Rattle.ep_rules.specs.Audits.{IsAccepted}
use Rattle.ep_rules.specs.declared.receipt.Receipt.{Receipt}
use Rattle.ep_run.specs.Rings.{IsBegun, begun_of}
use Rattle.ep_run.specs.declared.ran.Ran.{Ran}
use Rattle.ep_script.specs.Outcome.{IsScript}
use Rattle.ep_script.specs.Plan.{Plan, RunPlan, script_of, run_of}
use Rattle.ep_script.specs.declared.script_fault.ScriptFault.{ScriptFault}
use Rattle.ep_script.specs.declared.script_fault.ScriptFault.TheVariants as script

-- out of memory is no device's fault
pub memory_read : (r : Result Made EngineFault) (had has : Bool) → IfErr r (λ e. e ≡ Memory) → has ≡ (false || had) → FailsAsReported is_read r had has
memory_read (Ok made) had has is flag = flag
memory_read (Err e) had has is flag = flag ∙ ap (λ (b : Bool). b || had) (sym (ap is_read is))

pub memory_unwritten : (r : Result Made EngineFault) → IfErr r (λ e. e ≡ Memory) → IfErr r (λ e. is_write e ≡ false)
memory_unwritten (Ok made) is = tt
memory_unwritten (Err e) is = ap is_write is

-- A bundle that is audited.

-- of the same receipts, whether the audit accepts being known
pub said_as :
    (form : Form) (journals : Collected) (slice receipts : List Receipt) (found known : Bool) (text : List ℕ) → slice ≡ receipts → found ≡ known → IsJudgedIn form journals slice found text → IsJudgedIn form journals receipts known text
said_as form journals slice receipts found known text same is said = subst (λ (b : Bool). IsJudgedIn form journals receipts b text) is (subst (λ (rs : List Receipt). IsJudgedIn form journals rs found text) same said)

pub audit_made :
    (form : Form) (journals : Collected) (receipts : List Receipt) (end : Left) (zs : List ℕ) (r : Result Made EngineFault) → Reads zs (Ok ((journals, receipts), end)) →
    IfOk r (λ m. Says form journals receipts m.status m.text.items) → IfErr r (λ e. e ≡ Memory) → Makes (Does (Audit form)) r zs
audit_made form journals receipts end zs (Ok made) read says memory = λ out wrote. record { journals = journals; receipts = receipts; end = end; read = read; text = made.text.items; says = says; wrote = wrote }
audit_made form journals receipts end zs (Err e) read says memory = λ out silent. subst (λ (x : EngineFault). Does (Audit form) (Err x) zs out) (sym memory) silent

pub audit_verdict : (form : Form) (journals : Collected) (receipts : List Receipt) (r : Result Made EngineFault) → IfOk r (λ m. Says form journals receipts m.status m.text.items) → IfOk r (λ m. IsVerdict m.status)
audit_verdict form journals receipts (Ok made) says = says_verdict form journals receipts made.status made.text.items says
audit_verdict form journals receipts (Err e) says = tt

-- A script that is run.

pub not_run : (options : Options) (s : ScriptFault) (r : Result Made EngineFault) (zs : List ℕ) → IsErrAnd r (λ e. e ≡ of_script s) → IsScript (Err s) (run_of zs) → Makes (Does (Run options)) r zs
not_run options s r zs is found = not_made (Does (Run options)) r (of_script s) zs is (go s found)
  where
    go : (s : ScriptFault) → IsScript (Err s) (run_of zs) → (out : Output) → WroteNothing out → Does (Run options) (Err (of_script s)) zs out
    go script.Memory found out silent = silent
    go script.ReadFailed found out silent = silent
    go (script.Refused line) found out silent = (found, silent)

pub run_made :
    (options : Options) (emit : Emit) (plan : RunPlan) (ran : Ran) (zs : List ℕ) (r : Result Made EngineFault) → run_of zs ≡ Ok plan → IsBegun (begun_of plan.head) ran.finished.journals →
    Promises options.host options.turns plan.sections ran → emit ≡ options.emit → IfOk r (λ m. SaysOfRun emit ran m.status m.text.items) →
    (IsOk ran.finished.verdict → IfOk r (λ m. m.status ≡ Done)) → IfErr r (λ e. e ≡ Memory) → Makes (Does (Run options)) r zs
run_made options emit plan ran zs (Ok made) read begun promised is says accepted memory = λ out wrote.
    runs_to options made.status zs out
    (record { plan = plan; script = read; ran = ran; begun = begun; promised = promised; text = made.text.items; says = says_as emit options.emit ran made.status made.text.items is says; wrote = wrote })
    accepted
run_made options emit plan ran zs (Err e) read begun promised is says accepted memory = λ out silent. subst (λ (x : EngineFault). Does (Run options) (Err x) zs out) (sym memory) silent

pub run_status : (emit : Emit) (ran : Ran) (r : Result Made EngineFault) → IfOk r (λ m. SaysOfRun emit ran m.status m.text.items) → IfOk r (λ m. IsVerdict m.status)
run_status emit ran (Ok made) says = run_verdict emit ran made.status made.text.items says
run_status emit ran (Err e) says = tt

-- A script that is replayed.

pub not_played : (emit : Emit) (s : ScriptFault) (r : Result Made EngineFault) (zs : List ℕ) → IsErrAnd r (λ e. e ≡ of_script s) → IsScript (Err s) (script_of zs) → Makes (Does (Replay emit)) r zs
not_played emit s r zs is found = not_made (Does (Replay emit)) r (of_script s) zs is (go emit s found)
  where
    go : (emit : Emit) (s : ScriptFault) → IsScript (Err s) (script_of zs) → (out : Output) → WroteNothing out → Does (Replay emit) (Err (of_script s)) zs out
    go (Report form) script.Memory found out silent = silent
    go (Report form) script.ReadFailed found out silent = silent
    go (Report form) (script.Refused line) found out silent = (found, silent)
    go Bundle script.Memory found out silent = silent
    go Bundle script.ReadFailed found out silent = silent
    go Bundle (script.Refused line) found out silent = (found, silent)

pub emitted_made :
    (emit : Emit) (plan : Plan) (played : Replayed) (text zs : List ℕ) (out : Output) → script_of zs ≡ Ok plan → IsReplay plan played →
    IsAccepted (opens played.journals.opening) played.journals.faults (journals_of played.journals) played.receipts.items → IsEmitted emit played text → Wrote out text → Does (Replay emit) (Ok Done) zs out
emitted_made (Report form) plan played text zs out read replay accepted is wrote =
    (refl, record { plan = plan; script = read; text = text; report = record { played = played; replay = replay; report = is }; wrote = wrote })
emitted_made Bundle plan played text zs out read replay accepted is wrote =
    (refl, bundled played text zs out is (record { plan = plan; script = read; replay = replay }) accepted wrote)

-- out of memory
pub stops_playing : (emit : Emit) (e : EngineFault) (zs : List ℕ) (out : Output) → e ≡ Memory → WroteNothing out → Does (Replay emit) (Err e) zs out
stops_playing emit e zs out is silent = subst (λ (x : EngineFault). Does (Replay emit) (Err x) zs out) (sym is) (go emit)
  where
    go : (emit : Emit) → Does (Replay emit) (Err Memory) zs out
    go (Report form) = silent
    go Bundle = silent

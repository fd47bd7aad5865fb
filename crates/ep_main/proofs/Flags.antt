-- Whether a device failed, as a fault reports it that was made of another.
use Rattle.std.proofs.Common.{◌≡◌, ℕ, Bool, false, List, Result, Ok, Err, refl, sym, ◌∙◌, ap}
use Rattle.std.specs.Prelude.{◌||◌, IfErr, IsErrAnd}
use Rattle.ep_base.specs.Devices.{FailsAsReported}
use Rattle.ep_bundle.specs.Reading.{is_read_failed as is_bundle_read}
use Rattle.ep_bundle.specs.declared.bundle_fault.BundleFault.{BundleFault}
use Rattle.ep_bundle.specs.declared.bundle_fault.BundleFault.TheVariants as bundle
use Rattle.ep_script.specs.Faults.{is_read_failed as is_script_read}
use Rattle.ep_script.specs.declared.script_fault.ScriptFault.{ScriptFault}
use Rattle.ep_script.specs.declared.script_fault.ScriptFault.TheVariants as script
use Rattle.ep_journal.specs.Entries.{Collected}
use Rattle.ep_rules.specs.declared.receipt.Receipt.{Receipt}
use Rattle.ep_main.specs.Audits.{Says, SaysOfRun}
use Rattle.ep_main.specs.Faults.{of_bundle, of_script, is_read, is_write}
use Rattle.ep_main.specs.Runs.{IsVerdict}
use Rattle.ep_run.specs.declared.ran.Ran.{Ran}
use Rattle.ep_main.specs.declared.asked.Emit.{Emit}
use Rattle.ep_main.specs.declared.asked.Emit.TheVariants.{Report, Bundle}
use Rattle.ep_main.specs.declared.form.Form.{Form}
use Rattle.ep_main.specs.declared.engine_fault.EngineFault.{EngineFault}
use Rattle.ep_cli.specs.declared.status.Status.{Status}
use Rattle.ep_cli.specs.declared.status.Status.TheVariants.{Done, AuditRefused, Refused, OutOfMemory, Failed}

read_of_script : (s : ScriptFault) → is_read (of_script s) ≡ is_script_read s
read_of_script script.Memory = refl
read_of_script script.ReadFailed = refl
read_of_script (script.Refused n) = refl

write_of_script : (s : ScriptFault) → is_write (of_script s) ≡ false
write_of_script script.Memory = refl
write_of_script script.ReadFailed = refl
write_of_script (script.Refused n) = refl

read_of_bundle : (b : BundleFault) → is_read (of_bundle b) ≡ is_bundle_read b
read_of_bundle bundle.Memory = refl
read_of_bundle bundle.ReadFailed = refl
read_of_bundle (bundle.BadBundle field) = refl
read_of_bundle (bundle.NotARun replica entry) = refl

write_of_bundle : (b : BundleFault) → is_write (of_bundle b) ≡ false
write_of_bundle bundle.Memory = refl
write_of_bundle bundle.ReadFailed = refl
write_of_bundle (bundle.BadBundle field) = refl
write_of_bundle (bundle.NotARun replica entry) = refl

-- an answer reports the fault e, of which `is_its` says this
pub as_reported : {A : Type 0} (is_its : EngineFault → Bool) (e : EngineFault) (reported had has : Bool) (r : Result A EngineFault) → IsErrAnd r (λ x. x ≡ e) → is_its e ≡ reported → has ≡ (reported || had) → FailsAsReported is_its r had has
as_reported is_its e reported had has (Ok a) is same flag = absurd is
as_reported is_its e reported had has (Err x) is same flag = flag ∙ ap (λ (b : Bool). b || had) (sym (ap is_its is ∙ same))

pub script_read : {A : Type 0} (s : ScriptFault) (r : Result A EngineFault) (had has : Bool) → IsErrAnd r (λ x. x ≡ of_script s) → has ≡ (is_script_read s || had) → FailsAsReported is_read r had has
script_read s r had has is flag = as_reported is_read (of_script s) (is_script_read s) had has r is (read_of_script s) flag

-- what a reader reports is not that the output has failed
as_err : {A : Type 0} (f : EngineFault) (r : Result A EngineFault) → IsErrAnd r (λ e. e ≡ f) → is_write f ≡ false → IfErr r (λ e. is_write e ≡ false)
as_err f (Ok a) is same = absurd is
as_err f (Err e) is same = ap is_write is ∙ same

pub script_unwritten : {A : Type 0} (s : ScriptFault) (r : Result A EngineFault) → IsErrAnd r (λ e. e ≡ of_script s) → IfErr r (λ e. is_write e ≡ false)
script_unwritten s r is = as_err (of_script s) r is (write_of_script s)

pub bundle_read : {A : Type 0} (b : BundleFault) (r : Result A EngineFault) (had has : Bool) → IsErrAnd r (λ x. x ≡ of_bundle b) → has ≡ (is_bundle_read b || had) → FailsAsReported is_read r had has
bundle_read b r had has is flag = as_reported is_read (of_bundle b) (is_bundle_read b) had has r is (read_of_bundle b) flag

pub bundle_unwritten : {A : Type 0} (b : BundleFault) (r : Result A EngineFault) → IsErrAnd r (λ e. e ≡ of_bundle b) → IfErr r (λ e. is_write e ≡ false)
bundle_unwritten b r is = as_err (of_bundle b) r is (write_of_bundle b)

-- what an audit says is a verdict
pub says_verdict : (form : Form) (journals : Collected) (receipts : List Receipt) (status : Status) (text : List ℕ) → Says form journals receipts status text → IsVerdict status
says_verdict form journals receipts Done text says = tt
says_verdict form journals receipts AuditRefused text says = tt
says_verdict form journals receipts Refused text says = absurd says
says_verdict form journals receipts OutOfMemory text says = absurd says
says_verdict form journals receipts Failed text says = absurd says

pub run_verdict : (emit : Emit) (ran : Ran) (status : Status) (text : List ℕ) → SaysOfRun emit ran status text → IsVerdict status
run_verdict (Report form) ran Done text says = tt
run_verdict (Report form) ran AuditRefused text says = tt
run_verdict (Report form) ran Refused text says = absurd says
run_verdict (Report form) ran OutOfMemory text says = absurd says
run_verdict (Report form) ran Failed text says = absurd says
run_verdict Bundle ran Done text says = tt
run_verdict Bundle ran AuditRefused text says = tt
run_verdict Bundle ran Refused text says = absurd says
run_verdict Bundle ran OutOfMemory text says = absurd says
run_verdict Bundle ran Failed text says = absurd says

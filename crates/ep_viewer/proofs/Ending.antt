-- What became of what the program was asked for.
use Rattle.std.proofs.Common.{◌≡◌, ℕ, Bool, true, false, List, Option, Result, Ok, Err, IfOk, IfErr, refl, sym, ◌∙◌, ap, subst, codes, string_bytes}
use Rattle.std.specs.Prelude.{◌||◌, IsErrAnd}
use Rattle.ep_base.specs.Devices.{FailsAsReported}
use Rattle.std.specs.Global.{Vec}
use Rattle.ep_bundle.specs.Journals.{ReadsBundle, Finds}
use Rattle.ep_bundle.specs.Reading.{Left, is_read_failed}
use Rattle.ep_explain.specs.Kept.{is_read_failed as is_explain_read}
use Rattle.ep_explain.specs.declared.explain_fault.ExplainFault.{ExplainFault}
use Rattle.ep_explain.specs.declared.explain_fault.ExplainFault.TheVariants as explain
use Rattle.ep_bundle.specs.declared.bundle_fault.BundleFault.{BundleFault}
use Rattle.ep_bundle.specs.declared.bundle_fault.BundleFault.TheVariants as bundle
use Rattle.ep_journal.specs.Entries.{Collected}
use Rattle.ep_script.specs.Outcome.{IsScript}
use Rattle.ep_script.specs.Plan.{script_of}
use Rattle.ep_script.specs.Faults.{is_read_failed as is_script_read}
use Rattle.ep_script.specs.declared.script_fault.ScriptFault.{ScriptFault}
use Rattle.ep_script.specs.declared.script_fault.ScriptFault.TheVariants as script
use Rattle.ep_viewer.specs.Faults.{of_bundle, of_explained, of_script, is_read, is_write}
use Rattle.ep_rules.specs.declared.receipt.Receipt.{Receipt}
use Rattle.ep_cli.proofs.Printed.{not_made, put_to}
use Rattle.ep_cli.specs.Outputs.{Output, Wrote, WroteNothing, became}
use Rattle.ep_cli.specs.Printed.{IsPut, IsTextPut, Makes}
use Rattle.ep_cli.specs.declared.made.Made.{Made}
use Rattle.ep_viewer.specs.Views.{Concludes, Does, Prints, Displays}
use Rattle.ep_view.specs.declared.wanted.Wanted.{Wanted}
use Rattle.ep_viewer.specs.declared.viewer_asked.ViewerAsked.{ViewerAsked}
use Rattle.ep_viewer.specs.declared.viewer_asked.ViewerAsked.TheVariants.{View as OfBundle, Trace, Explain, Version, Help}
use Rattle.ep_viewer.specs.declared.view.View.{View}
use Rattle.ep_viewer.specs.declared.view.View.TheVariants.{Columns}
use Rattle.ep_cli.specs.declared.status.Status.{Status}
use Rattle.ep_cli.specs.declared.status.Status.TheVariants.{Done}
use Rattle.ep_viewer.specs.declared.viewer_fault.ViewerFault.{ViewerFault}
use Rattle.ep_viewer.specs.declared.viewer_fault.ViewerFault.TheVariants.{Script, BadBundle, NotARun, Memory, Read, Write}

-- where the output fails, nothing more is promised
free : (asked : ViewerAsked) (zs : List ℕ) (out : Output) → Does asked (Err Write) zs out
free (OfBundle view) zs out = tt
free Trace zs out = tt
free Explain zs out = tt
free Version zs out = tt
free (Help text) zs out = tt

pub done_as :
    (asked other : ViewerAsked) (made : Result Made ViewerFault) (r : Result Status ViewerFault) (zs : List ℕ) (out : Output) → asked ≡ other → Makes (Does other) made zs → IsPut Write made r out → Does asked r zs out
done_as asked other made r zs out is makes put = subst (λ (a : ViewerAsked). Does a r zs out) (sym is) (put_to (Does other) Write made r zs out (free other zs out) makes put)

text_put : (text : List ℕ) (r : Result Status ViewerFault) (out : Output) → IsTextPut Write text Done r out → Prints r text out
text_put text (Ok found) out put = (put.0, put.1)
text_put text (Err e) out put = subst (λ (x : ViewerFault). Prints (Err x) text out) (sym put.0) tt

pub version_put : (asked : ViewerAsked) (r : Result Status ViewerFault) (zs : List ℕ) (out : Output) → asked ≡ Version → IsTextPut Write (codes "epaxos 1.0.0\n") Done r out → Does asked r zs out
version_put asked r zs out is put = subst (λ (a : ViewerAsked). Does a r zs out) (sym is) (text_put (codes "epaxos 1.0.0\n") r out put)

-- help is asked for, with this text
abbrev pub IsHelpText : ViewerAsked → List ℕ → Type 0
IsHelpText (OfBundle view) bytes = ⊥
IsHelpText Trace bytes = ⊥
IsHelpText Explain bytes = ⊥
IsHelpText Version bytes = ⊥
IsHelpText (Help text) bytes = bytes ≡ string_bytes text

pub help_put :
    (asked other : ViewerAsked) (bytes : List ℕ) (r : Result Status ViewerFault) (zs : List ℕ) (out : Output) → asked ≡ other → IsHelpText other bytes → IsTextPut Write bytes Done r out → Does asked r zs out
help_put asked other bytes r zs out is text put = subst (λ (a : ViewerAsked). Does a r zs out) (sym is) (go other text)
  where
    go : (a : ViewerAsked) → IsHelpText a bytes → Does a r zs out
    go (OfBundle view) h = absurd h
    go Trace h = absurd h
    go Explain h = absurd h
    go Version h = absurd h
    go (Help text) h = text_put (string_bytes text) r out (subst (λ (l : List ℕ). IsTextPut Write l Done r out) h put)

-- a bundle that isn't read isn't viewed
pub not_read :
    (view : View) (b : BundleFault) (r : Result Made ViewerFault) (zs : List ℕ) (place : ℕ) (left : Option (List ℕ)) → IsErrAnd r (λ e. e ≡ of_bundle b) →
    Finds (ReadsBundle (record { at = 0; bytes = zs })) (Err b) place left → Makes (Does (OfBundle view)) r zs
not_read view b r zs place left is found = not_made (Does (OfBundle view)) r (of_bundle b) zs is (go b found)
  where
    go : (b : BundleFault) → Finds (ReadsBundle (record { at = 0; bytes = zs })) (Err b) place left → (out : Output) → WroteNothing out → Does (OfBundle view) (Err (of_bundle b)) zs out
    go bundle.Memory found out silent = silent
    go bundle.ReadFailed found out silent = silent
    go (bundle.BadBundle field) found out silent = (found, silent)
    go (bundle.NotARun replica entry) found out silent = (found, silent)

-- a text of the journals that are read is a view
pub viewed :
    (view : View) (journals : Collected) (receipts : List Receipt) (end : Left) (zs text : List ℕ) (out : Output) → ReadsBundle (record { at = 0; bytes = zs }) (Ok ((journals, receipts), end)) →
    Displays view journals text → Wrote out text → Does (OfBundle view) (Ok Done) zs out
viewed view journals receipts end zs text out read reports wrote =
    (refl, record { journals = journals; receipts = receipts; end = end; read = read; text = text; reports = reports; wrote = wrote })

-- or there is none, when out of memory
pub not_viewed : (view : View) (zs : List ℕ) (e : ViewerFault) (out : Output) → e ≡ Memory → WroteNothing out → Does (OfBundle view) (Err e) zs out
not_viewed view zs e out is silent = subst (λ (x : ViewerFault). Does (OfBundle view) (Err x) zs out) (sym is) silent

-- and then neither the reader nor the output has failed
pub no_text_read : (e : ViewerFault) (had has : Bool) → e ≡ Memory → has ≡ (false || had) → FailsAsReported {T = Made} is_read (Err e) had has
no_text_read e had has is flag = flag ∙ ap (λ (b : Bool). b || had) (sym (ap is_read is))

pub no_text_not_written : (e : ViewerFault) → e ≡ Memory → is_write e ≡ false
no_text_not_written e is = ap is_write is

-- of columns nothing is promised
pub any_text : (wanted : Wanted) (journals : Collected) (r : Result (Vec ℕ) ViewerFault) → IfOk r (λ t. Displays (Columns wanted) journals t.items)
any_text wanted journals (Ok text) = tt
any_text wanted journals (Err e) = tt

read_of_bundle : (b : BundleFault) → is_read (of_bundle b) ≡ is_read_failed b
read_of_bundle bundle.Memory = refl
read_of_bundle bundle.ReadFailed = refl
read_of_bundle (bundle.BadBundle field) = refl
read_of_bundle (bundle.NotARun replica entry) = refl

write_of_bundle : (b : BundleFault) → is_write (of_bundle b) ≡ false
write_of_bundle bundle.Memory = refl
write_of_bundle bundle.ReadFailed = refl
write_of_bundle (bundle.BadBundle field) = refl
write_of_bundle (bundle.NotARun replica entry) = refl

read_of_script : (s : ScriptFault) → is_read (of_script s) ≡ is_script_read s
read_of_script script.Memory = refl
read_of_script script.ReadFailed = refl
read_of_script (script.Refused n) = refl

write_of_script : (s : ScriptFault) → is_write (of_script s) ≡ false
write_of_script script.Memory = refl
write_of_script script.ReadFailed = refl
write_of_script (script.Refused n) = refl

-- an answer reports the fault e, of which `is_its` says this
as_reported : {A : Type 0} (is_its : ViewerFault → Bool) (e : ViewerFault) (reported had has : Bool) (r : Result A ViewerFault) → IsErrAnd r (λ x. x ≡ e) → is_its e ≡ reported → has ≡ (reported || had) → FailsAsReported is_its r had has
as_reported is_its e reported had has (Ok a) is same flag = absurd is
as_reported is_its e reported had has (Err x) is same flag = flag ∙ ap (λ (b : Bool). b || had) (sym (ap is_its is ∙ same))

pub bundle_read : {A : Type 0} (b : BundleFault) (r : Result A ViewerFault) (had has : Bool) → IsErrAnd r (λ x. x ≡ of_bundle b) → has ≡ (is_read_failed b || had) → FailsAsReported is_read r had has
bundle_read b r had has is flag = as_reported is_read (of_bundle b) (is_read_failed b) had has r is (read_of_bundle b) flag

pub script_read : {A : Type 0} (s : ScriptFault) (r : Result A ViewerFault) (had has : Bool) → IsErrAnd r (λ x. x ≡ of_script s) → has ≡ (is_script_read s || had) → FailsAsReported is_read r had has
script_read s r had has is flag = as_reported is_read (of_script s) (is_script_read s) had has r is (read_of_script s) flag

read_of_explained : (x : ExplainFault) → is_read (of_explained x) ≡ is_explain_read x
read_of_explained explain.Memory = refl
read_of_explained explain.ReadFailed = refl

write_of_explained : (x : ExplainFault) → is_write (of_explained x) ≡ false
write_of_explained explain.Memory = refl
write_of_explained explain.ReadFailed = refl

pub explained_read : {A : Type 0} (x : ExplainFault) (r : Result A ViewerFault) (had has : Bool) → IsErrAnd r (λ e. e ≡ of_explained x) → has ≡ (is_explain_read x || had) → FailsAsReported is_read r had has
explained_read x r had has is flag = as_reported is_read (of_explained x) (is_explain_read x) had has r is (read_of_explained x) flag

-- what a reader reports is not that the output has failed
as_err : {A : Type 0} (f : ViewerFault) (r : Result A ViewerFault) → IsErrAnd r (λ e. e ≡ f) → is_write f ≡ false → IfErr r (λ e. is_write e ≡ false)
as_err f (Ok a) is same = absurd is
as_err f (Err e) is same = ap is_write is ∙ same

pub bundle_unwritten : {A : Type 0} (b : BundleFault) (r : Result A ViewerFault) → IsErrAnd r (λ e. e ≡ of_bundle b) → IfErr r (λ e. is_write e ≡ false)
bundle_unwritten b r is = as_err (of_bundle b) r is (write_of_bundle b)

pub script_unwritten : {A : Type 0} (s : ScriptFault) (r : Result A ViewerFault) → IsErrAnd r (λ e. e ≡ of_script s) → IfErr r (λ e. is_write e ≡ false)
script_unwritten s r is = as_err (of_script s) r is (write_of_script s)

pub explained_unwritten : {A : Type 0} (x : ExplainFault) (r : Result A ViewerFault) → IsErrAnd r (λ e. e ≡ of_explained x) → IfErr r (λ e. is_write e ≡ false)
explained_unwritten x r is = as_err (of_explained x) r is (write_of_explained x)

-- a script that isn't read isn't traced
pub not_traced : (s : ScriptFault) (r : Result Made ViewerFault) (zs : List ℕ) → IsErrAnd r (λ e. e ≡ of_script s) → IsScript (Err s) (script_of zs) → Makes (Does Trace) r zs
not_traced s r zs is found = not_made (Does Trace) r (of_script s) zs is (go s found)
  where
    go : (s : ScriptFault) → IsScript (Err s) (script_of zs) → (out : Output) → WroteNothing out → Does Trace (Err (of_script s)) zs out
    go script.Memory found out silent = silent
    go script.ReadFailed found out silent = silent
    go (script.Refused line) found out silent = (found, silent)

-- what isn't read isn't explained
pub not_explained : (x : ExplainFault) (r : Result Made ViewerFault) (zs : List ℕ) → IsErrAnd r (λ e. e ≡ of_explained x) → Makes (Does Explain) r zs
not_explained x r zs is = not_made (Does Explain) r (of_explained x) zs is (go x)
  where
    go : (x : ExplainFault) (out : Output) → WroteNothing out → Does Explain (Err (of_explained x)) zs out
    go explain.Memory out silent = silent
    go explain.ReadFailed out silent = silent

-- on a fault output that stayed as it was before
pub concludes_from :
    {F : Type 0} (held : F → Option (List ℕ)) (has_failed : F → Bool) (outcome : Result Status ViewerFault) (status : Status) (a b c : F) → b ≡ a → Concludes outcome status (became held has_failed b c) →
    Concludes outcome status (became held has_failed a c)
concludes_from held has_failed outcome status a b c same h = subst (λ w. Concludes outcome status (became held has_failed w c)) same h

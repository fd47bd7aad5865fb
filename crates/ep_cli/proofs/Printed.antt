-- What was made is printed.
use Rattle.std.proofs.Common.{◌≡◌, ℕ, Bool, true, false, List, Result, Ok, Err, IfOk, IfErr, refl, sym, ◌∙◌, ap, subst}
use Rattle.std.specs.Prelude.{◌||◌, IsErrAnd}
use Rattle.ep_base.specs.Devices.{FailsAsReported}
use Rattle.ep_cli.specs.Outputs.{Output, WroteNothing}
use Rattle.ep_cli.specs.Printed.{IsPut, IsTextPut, Makes}
use Rattle.ep_cli.specs.declared.made.Made.{Made}
use Rattle.ep_cli.specs.declared.status.Status.{Status}

-- where a call's fault is handed on, nothing was made
pub not_made :
    {E : Type 0} (Does : Result Status E → List ℕ → Output → Type 0) (r : Result Made E) (f : E) (zs : List ℕ) → IsErrAnd r (λ e. e ≡ f) → ((out : Output) → WroteNothing out → Does (Err f) zs out) →
    Makes Does r zs
not_made Does (Ok made) f zs is does = absurd is
not_made Does (Err e) f zs is does = λ out silent. subst (λ x. Does (Err x) zs out) (sym is) (does out silent)

-- what was made is done once it is printed, and where it isn't, this holds
pub put_to :
    {E : Type 0} (Does : Result Status E → List ℕ → Output → Type 0) (unwritten : E) (made : Result Made E) (r : Result Status E) (zs : List ℕ) (out : Output) → Does (Err unwritten) zs out →
    Makes Does made zs → IsPut unwritten made r out → Does r zs out
put_to Does unwritten (Ok made) (Ok status) zs out free makes put = subst (λ s. Does (Ok s) zs out) (sym put.0) (makes out put.1)
put_to Does unwritten (Ok made) (Err e) zs out free makes put = subst (λ x. Does (Err x) zs out) (sym put.0) free
put_to Does unwritten (Err e) (Ok status) zs out free makes put = absurd put
put_to Does unwritten (Err e) (Err f) zs out free makes put = subst (λ x. Does (Err x) zs out) (sym put.0) (makes out put.1)

-- The reader fails as is reported of what was made: of its faults `is_read` picks out the reader's.
pub put_reads :
    {E : Type 0} (is_read : E → Bool) (unwritten : E) (made : Result Made E) (r : Result Status E) (had has : Bool) (out : Output) → is_read unwritten ≡ false → FailsAsReported is_read made had has →
    IsPut unwritten made r out → FailsAsReported is_read r had has
put_reads is_read unwritten (Ok made) (Ok status) had has out never reported put = reported
put_reads is_read unwritten (Ok made) (Err e) had has out never reported put = reported ∙ ap (λ (b : Bool). b || had) (sym (ap is_read put.0 ∙ never))
put_reads is_read unwritten (Err e) (Ok status) had has out never reported put = absurd put
put_reads is_read unwritten (Err e) (Err f) had has out never reported put = reported ∙ ap (λ (b : Bool). b || had) (sym (ap is_read put.0))

pub text_reads :
    {E : Type 0} (is_read : E → Bool) (unwritten : E) (text : List ℕ) (status : Status) (r : Result Status E) (had : Bool) (out : Output) → is_read unwritten ≡ false → IsTextPut unwritten text status r out →
    FailsAsReported is_read r had had
text_reads is_read unwritten text status (Ok found) had out never put = refl
text_reads is_read unwritten text status (Err e) had out never put = ap (λ (b : Bool). b || had) (sym (ap is_read put.0 ∙ never))

-- The output fails where the text isn't printed: `is_write` picks out that fault.
pub text_fails :
    {E : Type 0} (is_write : E → Bool) (unwritten : E) (text : List ℕ) (status : Status) (r : Result Status E) (out : Output) → is_write unwritten ≡ true → IsTextPut unwritten text status r out →
    FailsAsReported is_write r out.had_failed out.failed
text_fails is_write unwritten text status (Ok found) out is put = put.2
text_fails is_write unwritten text status (Err e) out is put = put.1 ∙ ap (λ (b : Bool). b || out.had_failed) (sym (ap is_write put.0 ∙ is))

pub put_fails :
    {E : Type 0} (is_write : E → Bool) (unwritten : E) (made : Result Made E) (r : Result Status E) (out : Output) → is_write unwritten ≡ true → IfErr made (λ e. is_write e ≡ false) →
    IsPut unwritten made r out → FailsAsReported is_write r out.had_failed out.failed
put_fails is_write unwritten (Ok made) r out is none put = text_fails is_write unwritten made.text.items made.status r out is put
put_fails is_write unwritten (Err e) (Ok status) out is none put = absurd put
put_fails is_write unwritten (Err e) (Err f) out is none put = put.2 ∙ ap (λ (b : Bool). b || out.had_failed) (sym (ap is_write put.0 ∙ none))

-- the status that is answered is that of what was made
pub put_status :
    {E : Type 0} (P : Status → Type 0) (unwritten : E) (made : Result Made E) (r : Result Status E) (out : Output) → IfOk made (λ m. P m.status) → IsPut unwritten made r out → IfOk r P
put_status P unwritten (Ok made) (Ok status) out holds put = subst P (sym put.0) holds
put_status P unwritten (Ok made) (Err e) out holds put = tt
put_status P unwritten (Err e) (Ok status) out holds put = absurd put
put_status P unwritten (Err e) (Err f) out holds put = tt

pub text_status :
    {E : Type 0} (P : Status → Type 0) (unwritten : E) (text : List ℕ) (status : Status) (r : Result Status E) (out : Output) → P status → IsTextPut unwritten text status r out → IfOk r P
text_status P unwritten text status (Ok found) out holds put = subst P (sym put.0) holds
text_status P unwritten text status (Err e) out holds put = tt

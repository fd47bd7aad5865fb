-- What is read of a body.
use Rattle.std.proofs.Common.{◌≡◌, ◌≢◌, ℕ, true, cond, List, Option, Result, Ok, Err, refl, sym, ap, ◌∙◌}
use Rattle.ep_bundle.specs.declared.journal_dialect.JournalDialect.{JournalDialect}
use Rattle.ep_bundle.specs.Reading.{Reading, Reads}
use Rattle.ep_bundle.specs.declared.bundle_fault.BundleFault.{BundleFault}
use Rattle.ep_bundle.specs.declared.bundle_fault.BundleFault.TheVariants.{Memory, ReadFailed, BadBundle, NotARun}
use Rattle.ep_wire.specs.Requests.{body_of, field_in, fields_of, given, is_kind, or_malformed, place_of, request_of}
use Rattle.ep_wire.specs.declared.malformed.Malformed.{Malformed as Fault}
use Rattle.ep_wire.specs.declared.request.Request.{Request}
use Rattle.ep_wire.specs.declared.request.Request.TheVariants.{Malformed}
use Rattle.ep_wire.specs.declared.request_field.RequestField.TheVariants.{Kind}

pub given_some : {A : Type 0} (o : Reading A) (a : A) (p : ℕ) (left : Option (List ℕ)) → Reads o (Ok a) p left → Ok a ≡ given o
given_some {A = A} o a p left h = sym (ap (λ (x : Reading A). given x) h.2)

pub given_none : {A : Type 0} (o : Reading A) (e : BundleFault) (at p : ℕ) (left : Option (List ℕ)) → ((e ≢ Memory) × (e ≢ ReadFailed) × (at ≡ place_of e)) → Reads o (Err e) p left → Err at ≡ given o
given_none {A = A} o Memory at p left f h = absurd (f.0 refl)
given_none {A = A} o ReadFailed at p left f h = absurd (f.1 refl)
given_none {A = A} o (BadBundle x) at p left f h = ap (λ (y : ℕ). Err y) f.2 ∙ sym (ap (λ (y : Reading A). given y) h)
given_none {A = A} o (NotARun r n) at p left f h = ap (λ (y : ℕ). Err y) f.2 ∙ sym (ap (λ (y : Reading A). given y) h)

-- the request of a kind that there is, and of a body that is at fault
pub malformed_so : (how : JournalDialect) (kind : ℕ) (bs read reported : List ℕ) (at : ℕ) (o : Result Request ℕ) (m : Fault) → is_kind how.version kind ≡ true → o ≡ body_of how kind read → o ≡ Err at → read ≡ bs → reported ≡ bs
    → m ≡ record { field = field_in (fields_of how.version kind reported) at; at = at } → Malformed m ≡ request_of how kind bs
malformed_so how kind bs read reported at o m there is wrong same same' named =
    let fault : Err at ≡ body_of how kind bs = sym wrong ∙ is ∙ ap (λ (b : List ℕ). body_of how kind b) same in
    ap (λ (x : Fault). Malformed x) named ∙ ap (λ (b : List ℕ). Malformed (record { field = field_in (fields_of how.version kind b) at; at = at })) same'
    ∙ ap (λ (x : Result Request ℕ). or_malformed how.version kind bs x) fault
    ∙ ap (λ t. cond t (or_malformed how.version kind bs (body_of how kind bs)) (Malformed (record { field = Kind; at = 4 }))) (sym there)

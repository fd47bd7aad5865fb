-- The length of the next request, or none.
use Rattle.std.proofs.Common.{◌≡◌, ◌≢◌, ℕ, ◌+◌, ◌≤◌, ◌<◌, min, Bool, true, false, cond, eqb, List, [], ◌++◌, length, length-append, append-nil, length-take-le, take, take_all, Option, Some, None, Result, Ok, Err, refl, sym, ap, ◌∙◌, subst, arith}
use Rattle.std.proofs.lemmas.Bool.{ne_eqb}
use Rattle.ep_frame.specs.Fields.{number_at}
use Rattle.ep_bundle.specs.Filling.{Fills}
use Rattle.ep_bundle.specs.Reading.{Left, Reading, and_then, bad, number, Reads}
use Rattle.ep_bundle.specs.declared.bundle_fault.BundleFault.{BundleFault}
use Rattle.ep_bundle.specs.declared.bundle_fault.BundleFault.TheVariants.{BadBundle, NotARun}
use Rattle.ep_bundle.specs.declared.bad_field.BadField.{BadField}
use Rattle.ep_bundle.specs.declared.bundle_field.BundleField.TheVariants.{Other}
use Rattle.ep_bundle.specs.declared.wanted.Wanted.TheVariants.{Whole, Unsaid}
use Rattle.ep_bundle.proofs.Readings.{cut, fails, goes_on, numbered, same_reading, taken}
use Rattle.ep_base.specs.declared.version.Version.{Version}
use Rattle.ep_wire.specs.Front.{Gathers}
use Rattle.ep_wire.specs.Requests.{is_length, next_request, size_field, sized, some, unless_over}
use Rattle.ep_bundle.specs.declared.journal_dialect.JournalDialect.{JournalDialect}
use Rattle.ep_wire.specs.declared.request.Request.{Request}
use Rattle.std.specs.Prelude.{IsErr, IsErrAnd}

abbrev from : ℕ → List ℕ → Left
from at zs = record { at = at; bytes = zs }

-- the length, where it is cut, and where it is out of range
abbrev pub cut_at : ℕ → BundleFault
cut_at at = bad Other 4 Whole (from at [])

abbrev pub bad_at : ℕ → BundleFault
bad_at at = bad Other 4 Unsaid (from at [])

-- the input is over
pub over : {A : Type 0} (n at : ℕ) (zs buf : List ℕ) (left : Option (List ℕ)) (o : Reading A) → n ≡ 0 → length buf ≡ 4 → Gathers n zs buf left → Reads (unless_over (record { at = at; bytes = zs }) o) (Ok None) at left
over {A = A} n at zs buf left o none len g =
    let rest : g.rest ≡ [] = g.all (omega arith) in
    let front : take n buf ≡ [] = ap (λ k. take k buf) none in
    let is : zs ≡ [] = g.bytes ∙ ap (λ (x : List ℕ). x ++ g.rest) front ∙ rest in
    ([], g.left_is ∙ ap Some rest, ap (λ (x : List ℕ). unless_over (record { at = at; bytes = x }) o) is)

-- it isn't
there : {A : Type 0} (at : ℕ) (zs : List ℕ) (o : Reading A) → length zs ≢ 0 → unless_over (record { at = at; bytes = zs }) o ≡ some o
there {A = A} at zs o some_bytes = ap (λ b. cond b (Ok (None, from at zs)) (some o)) (ne_eqb (length zs) 0 some_bytes)

-- it ends within the length
pub cut_length : (v : Version) (n at : ℕ) (zs buf : List ℕ) (left : Option (List ℕ)) → n ≢ 0 → n < 4 → length buf ≡ 4 → Gathers n zs buf left → unless_over (record { at = at; bytes = zs }) (size_field v (record { at = at; bytes = zs })) ≡ Err (cut_at at)
cut_length v n at zs buf left more few len g =
    let rest : g.rest ≡ [] = g.all (omega arith) in
    let is : zs ≡ take n buf = g.bytes ∙ ap (λ (x : List ℕ). take n buf ++ x) rest ∙ append-nil (take n buf) in
    let long : length zs ≡ n = ap length is ∙ length-take-le n buf (omega arith) in
    let fills : Fills false zs buf left = (omega arith, g.left_is ∙ ap Some rest) in
    let none = cut Other zs buf 4 at left len fills in
    there at zs (size_field v (from at zs)) (λ e. more (sym long ∙ e))
    ∙ ap (λ (o : Reading (List ℕ)). some (and_then (and_then o (λ b l. Ok (number_at 0 4 b, l))) (λ x m. cond (is_length v x) (Ok (x, m)) (Err (bad_at at))))) none

-- the length's bytes are there
filled : (n at : ℕ) (zs buf : List ℕ) (left : Option (List ℕ)) → 4 ≤ n → n ≤ length buf → length buf ≡ 4 → Gathers n zs buf left → Fills true zs buf left
filled n at zs buf left all within len g = (g.rest, g.left_is, g.bytes ∙ ap (λ (x : List ℕ). x ++ g.rest) (take_all n buf (omega arith)))

not_over : (zs buf : List ℕ) (left : Option (List ℕ)) → length buf ≡ 4 → Fills true zs buf left → length zs ≢ 0
not_over zs buf left len f = λ e. absurd (let k : length zs ≡ length buf + length f.0 = ap length f.2 ∙ length-append buf f.0 in omega arith)

numbered_so : (n at place x : ℕ) (zs buf : List ℕ) (left : Option (List ℕ)) → length buf ≡ 4 → Fills true zs buf left → place ≡ min (at + 4) 18446744073709551615 → x ≡ number_at 0 4 buf → Reads (number Other 4 (record { at = at; bytes = zs })) (Ok x) place left
numbered_so n at place x zs buf left len f to is = numbered Other 4 (from at zs) buf x place left (taken Other zs buf 4 at place left len f to) is

-- it is out of range
pub bad_length : (v : Version) (n at x : ℕ) (zs buf : List ℕ) (left : Option (List ℕ)) → 4 ≤ n → n ≤ length buf → length buf ≡ 4 → Gathers n zs buf left → x ≡ number_at 0 4 buf → is_length v x ≡ false
    → unless_over (record { at = at; bytes = zs }) (size_field v (record { at = at; bytes = zs })) ≡ Err (bad_at at)
bad_length v n at x zs buf left all within len g is test =
    let f = filled n at zs buf left all within len g in
    let read = numbered_so n at (min (at + 4) 18446744073709551615) x zs buf left len f refl is in
    there at zs (size_field v (from at zs)) (not_over zs buf left len f)
    ∙ ap (λ (o : Reading ℕ). some (and_then o (λ y m. cond (is_length v y) (Ok (y, m)) (Err (bad_at at))))) read.2
    ∙ ap (λ b. some (cond b (Ok (x, record { at = min (at + 4) 18446744073709551615; bytes = read.0 })) (Err (bad_at at)))) test

-- it is in range
pub good_length : (v : Version) (n at place x : ℕ) (zs buf : List ℕ) (left : Option (List ℕ)) → 4 ≤ n → n ≤ length buf → length buf ≡ 4 → Gathers n zs buf left → place ≡ min (at + 4) 18446744073709551615 → x ≡ number_at 0 4 buf → is_length v x ≡ true
    → Reads (unless_over (record { at = at; bytes = zs }) (size_field v (record { at = at; bytes = zs }))) (Ok (Some x)) place left
good_length v n at place x zs buf left all within len g to is test =
    let f = filled n at zs buf left all within len g in
    let read = numbered_so n at place x zs buf left len f to is in (
      read.0,
      read.1,
      there at zs (size_field v (from at zs)) (not_over zs buf left len f)
          ∙ ap (λ (o : Reading ℕ). some (and_then o (λ y m. cond (is_length v y) (Ok (y, m)) (Err (bad_at at))))) read.2
          ∙ ap (λ b. some (cond b (Ok (x, record { at = place; bytes = read.0 })) (Err (bad_at at)))) test,
    )

-- The next request.

-- what comes after a length, or after none
abbrev pub after : {A B : Type 0} → (A → Left → Reading B) → Option A → Left → Reading (Option B)
after k None l = Ok (None, l)
after k (Some a) l = some (k a l)

-- the request begins with its length
pub split : {A B : Type 0} (l : Left) (o : Reading A) (k : A → Left → Reading B) → unless_over l (and_then o k) ≡ and_then (unless_over l o) (after k)
split {A = A} {B = B} l o k = go (eqb (length l.bytes) 0) o
  where
    go : (b : Bool) (o : Reading A) → cond b (Ok (None, l)) (some (and_then o k)) ≡ and_then (cond b (Ok (None, l)) (some o)) (after k)
    go true o = refl
    go false (Ok x) = refl
    go false (Err x) = refl

-- the length is at fault
pub next_fails : (how : JournalDialect) (at : ℕ) (zs : List ℕ) (e : BundleFault) (r : Result (Option Request) BundleFault) (p q : ℕ) (left left' : Option (List ℕ)) → Reads (unless_over (record { at = at; bytes = zs }) (size_field how.version (record { at = at; bytes = zs }))) (Err e) p left → IsErrAnd r (λ x. x ≡ e)
    → Reads (next_request how (record { at = at; bytes = zs })) r q left'
next_fails how at zs e r p q left left' h is =
    same_reading (next_request how (from at zs)) (and_then (unless_over (from at zs) (size_field how.version (from at zs))) (after (sized how))) r q left' (split (from at zs) (size_field how.version (from at zs)) (sized how))
    (fails (unless_over (from at zs) (size_field how.version (from at zs))) (after (sized how)) e r p q left left' h is)

-- what comes after the length, or none
pub next_goes_on : (how : JournalDialect) (at : ℕ) (zs : List ℕ) (len : Option ℕ) (p : ℕ) (left : Option (List ℕ)) (r : Result (Option Request) BundleFault) (q : ℕ) (left' : Option (List ℕ)) → Reads (unless_over (record { at = at; bytes = zs }) (size_field how.version (record { at = at; bytes = zs }))) (Ok len) p left
    → ((ys : List ℕ) → left ≡ Some ys → Reads (after (sized how) len (record { at = p; bytes = ys })) r q left') → Reads (next_request how (record { at = at; bytes = zs })) r q left'
next_goes_on how at zs len p left r q left' h next =
    same_reading (next_request how (from at zs)) (and_then (unless_over (from at zs) (size_field how.version (from at zs))) (after (sized how))) r q left' (split (from at zs) (size_field how.version (from at zs)) (sized how))
    (goes_on (unless_over (from at zs) (size_field how.version (from at zs))) (after (sized how)) len p left r q left' h next)

-- a length, and a request behind it
pub next_ends : (how : JournalDialect) (at : ℕ) (zs : List ℕ) (len p : ℕ) (left : Option (List ℕ)) (r : Request) (q : ℕ) (left' : Option (List ℕ)) → Reads (unless_over (record { at = at; bytes = zs }) (size_field how.version (record { at = at; bytes = zs }))) (Ok (Some len)) p left
    → ((ys : List ℕ) → left ≡ Some ys → Reads (sized how len (record { at = p; bytes = ys })) (Ok r) q left') → Reads (next_request how (record { at = at; bytes = zs })) (Ok (Some r)) q left'
next_ends how at zs len p left r q left' h read =
    next_goes_on how at zs (Some len) p left (Ok (Some r)) q left' h
    (λ ys is. goes_on (sized how len (from p ys)) (λ a l. Ok (Some a, l)) r q left' (Ok (Some r)) q left' (read ys is) (λ xs e. (xs, e, refl)))

-- a fault of a stage
pub is_bad : {A : Type 0} (o : Reading A) (e : BundleFault) (field : BadField) (p : ℕ) (left : Option (List ℕ)) → e ≡ BadBundle field → Reads o (Err e) p left → IsErr o
is_bad {A = A} o e field p left is h = subst (λ (x : Reading A). IsErr x) (sym (subst (λ (x : BundleFault). Reads {A = A} o (Err x) p left) is h)) refl

pub is_no_run : {A : Type 0} (o : Reading A) (e : BundleFault) (r n p : ℕ) (left : Option (List ℕ)) → e ≡ NotARun r n → Reads o (Err e) p left → IsErr o
is_no_run {A = A} o e r n p left is h = subst (λ (x : Reading A). IsErr x) (sym (subst (λ (x : BundleFault). Reads {A = A} o (Err x) p left) is h)) refl

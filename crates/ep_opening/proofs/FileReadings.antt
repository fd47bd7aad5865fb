-- Parts whose faults are reported by the names of their fields.
use Rattle.std.proofs.Common.{◌≡◌, ◌≢◌, ℕ, List, [], Option, Some, Result, Ok, Err, refl, sym, ap, ◌∙◌, subst}
use Rattle.std.specs.Prelude.{IfErr, IfOk, IsErrAnd}
use Rattle.ep_bundle.specs.Reading.{Left, Reading, Reads}
use Rattle.ep_bundle.specs.declared.bundle_fault.BundleFault.{BundleFault}
use Rattle.ep_bundle.specs.declared.bundle_fault.BundleFault.TheVariants as bundle
use Rattle.ep_bundle.specs.declared.bundle_fault.BundleFault.TheVariants.{BadBundle, NotARun}
use Rattle.ep_opening.specs.Reading.{IsReadAs, FileReading, ReadsAs, and_reported, place_of, file_reading}
use Rattle.ep_opening.specs.declared.opening_fault.OpeningFault.{OpeningFault}
use Rattle.ep_opening.specs.declared.opening_fault.OpeningFault.TheVariants.{Memory, CutShort, Damaged, Wrong}
use Rattle.ep_opening.specs.declared.opening_field.OpeningField.{OpeningField}

-- what was read is given
pub reported_read : {A : Type 0} (name : ℕ → OpeningField) (o : Reading A) (a : A) (p : ℕ) (left : Option (List ℕ)) → Reads o (Ok a) p left → ReadsAs (file_reading name o) (Ok a) p left
reported_read {A = A} name o a p left h = (h.0, h.1, ap (λ (x : Reading A). file_reading name x) h.2)

abbrev wrongly : {A : Type 0} → ℕ → OpeningField → FileReading A
wrongly at field = Err (Wrong at field)

-- and so is a fault
pub reported_fault : {A : Type 0} (name : ℕ → OpeningField) (o : Reading A) (e : BundleFault) (at : ℕ) (field : OpeningField) (p q : ℕ) (left left' : Option (List ℕ)) → (e ≢ bundle.Memory) × (e ≢ bundle.ReadFailed) × (at ≡ place_of e) → field ≡ name at
    → Reads {A = A} o (Err e) p left → ReadsAs {A = A} (file_reading name o) (Err (Wrong at field)) q left'
reported_fault {A = A} name o bundle.Memory at field p q left left' f is h = absurd (f.0 refl)
reported_fault {A = A} name o bundle.ReadFailed at field p q left left' f is h = absurd (f.1 refl)
reported_fault {A = A} name o (BadBundle x) at field p q left left' f is h = ap (λ (y : Reading A). file_reading name y) h ∙ spelled
  where
    spelled : wrongly {A = A} x.at (name x.at) ≡ wrongly at field
    spelled = ap (λ (y : ℕ). wrongly {A = A} y (name y)) (sym f.2) ∙ ap (λ (y : OpeningField). wrongly {A = A} at y) (sym is)
reported_fault {A = A} name o (NotARun r n) at field p q left left' f is h = ap (λ (y : Reading A). file_reading name y) h ∙ spelled
  where
    spelled : wrongly {A = A} 0 (name 0) ≡ wrongly at field
    spelled = ap (λ (y : ℕ). wrongly {A = A} y (name y)) (sym f.2) ∙ ap (λ (y : OpeningField). wrongly {A = A} at y) (sym is)

-- a part that fails ends the whole
pub fails_reported : {A B : Type 0} (o : FileReading A) (k : A → Left → FileReading B) (e : OpeningFault) (r : Result B OpeningFault) (p q : ℕ) (left left' : Option (List ℕ)) → ReadsAs {A = A} o (Err e) p left → IsErrAnd r (λ x. x ≡ e)
    → ReadsAs (and_reported o k) r q left'
fails_reported {A = A} o k e (Ok b) p q left left' h is = absurd is
fails_reported {A = A} {B = B} o k e (Err f) p q left left' h is = subst (λ (x : OpeningFault). ReadsAs {A = B} (and_reported o k) (Err x) q left') (sym is) (go e h)
  where
    go : (x : OpeningFault) → ReadsAs {A = A} o (Err x) p left → ReadsAs {A = B} (and_reported o k) (Err x) q left'
    go Memory h = tt
    go (CutShort at) h = subst (λ (x : FileReading A). and_reported x k ≡ Err (CutShort at)) (sym h) refl
    go (Damaged at) h = subst (λ (x : FileReading A). and_reported x k ≡ Err (Damaged at)) (sym h) refl
    go (Wrong at name) h = subst (λ (x : FileReading A). and_reported x k ≡ Err (Wrong at name)) (sym h) refl

-- after a part that gives something the whole is what the next one makes of it
pub goes_on_reported : {A B : Type 0} (o : FileReading A) (k : A → Left → FileReading B) (a : A) (p : ℕ) (left : Option (List ℕ)) (r : Result B OpeningFault) (q : ℕ) (left' : Option (List ℕ)) → ReadsAs o (Ok a) p left
    → ((ys : List ℕ) → left ≡ Some ys → ReadsAs (k a (record { at = p; bytes = ys })) r q left') → ReadsAs (and_reported o k) r q left'
goes_on_reported {A = A} o k a p left r q left' h next = subst (λ (x : FileReading A). ReadsAs (and_reported x k) r q left') (sym h.2) (next h.0 h.1)

-- the last part is made, unless memory is refused
pub made_reported : {A : Type 0} (a : A) (p : ℕ) (ys : List ℕ) (left : Option (List ℕ)) (r : Result A OpeningFault) → left ≡ Some ys → IfOk r (λ x. x ≡ a) → IfErr r (λ e. e ≡ Memory) → ReadsAs (Ok (a, record { at = p; bytes = ys })) r p left
made_reported {A = A} a p ys left (Ok x) h is e = (ys, h, ap (λ (y : A). Ok (y, record { at = p; bytes = ys })) (sym is))
made_reported {A = A} a p ys left (Err f) h is e = subst (λ (x : OpeningFault). ReadsAs {A = A} (Ok (a, record { at = p; bytes = ys })) (Err x) p left) (sym e) tt

-- what is said of a whole holds wherever it leaves off
pub is_reported : {A : Type 0} (o : FileReading A) (r : Result A OpeningFault) (p : ℕ) (left : Option (List ℕ)) → ReadsAs o r p left → IsReadAs o r
is_reported o (Ok a) p left h = (record { at = p; bytes = h.0 }, h.2)
is_reported o (Err Memory) p left h = tt
is_reported o (Err (CutShort at)) p left h = h
is_reported o (Err (Damaged at)) p left h = h
is_reported o (Err (Wrong at name)) p left h = h

-- from the whole back to its parts

pub reported_then : {A B : Type 0} (o : FileReading A) (k : A → Left → FileReading B) (b : B) (l : Left) → and_reported o k ≡ Ok (b, l) → (a : A) × (m : Left) × (o ≡ Ok (a, m)) × (k a m ≡ Ok (b, l))
reported_then (Ok p) k b l h = (p.0, p.1, refl, h)
reported_then (Err e) k b l h = absurd (cc)

pub reporting_read : {A : Type 0} (name : ℕ → OpeningField) (o : Reading A) (a : A) (l : Left) → file_reading name o ≡ Ok (a, l) → o ≡ Ok (a, l)
reporting_read {A = A} name (Ok p) a l h = let t : p ≡ (a, l) = (cc) in ap (λ (x : A × Left). Ok x) t
reporting_read name (Err e) a l h = absurd (cc)

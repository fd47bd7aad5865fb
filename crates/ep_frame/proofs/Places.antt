-- What `field_from` finds is the field that has the byte.
use Rattle.std.proofs.Common.{◌≡◌, ℕ, ◌+◌, ◌-◌, ◌/◌, ◌≤◌, ◌<◌, Bool, true, false, cond, ltb, List, [], ◌∷◌, ◌++◌, refl, sym, ap, subst, arith}
use Rattle.std.specs.Prelude.{replicate}
use Rattle.std.proofs.lemmas.Bool.{ltb-true, ltb-false}
use Rattle.std.proofs.lemmas.List.{replicate_more}
use Rattle.std.proofs.lemmas.List.Folds.{sum_by-replicate}
use Rattle.std.proofs.lemmas.List.Sums.{sum_by-cons}
use Rattle.ep_frame.specs.declared.field_name.FieldName.{FieldName}
use Rattle.ep_frame.specs.declared.field_name.FieldName.TheVariants.{Dependency}
use Rattle.ep_frame.specs.declared.frame_field.FrameField.{FrameField}
use Rattle.ep_frame.specs.Places.{IsFieldAt, IsFieldFrom, NamedFields, field_from, fields_in, width}

found_behind : (first place : ℕ) → first ≤ place → IsFieldFrom first [] place (field_from first [] place)
found_behind first place le =
    let k : ℕ = (place - first) / 3 in
    record {
      low = omega arith;
      high = omega arith;
      dependencies = k + 1;
      before = replicate k (Dependency, 3);
      after = [];
      stands = sym (replicate_more k (Dependency, 3));
      begins = omega (arith, sum_by-replicate width k (Dependency, 3));
    }

module _ (first place w : ℕ) (n : FieldName) (fs : NamedFields) where
  found_first : first ≤ place → place < first + w
      → IsFieldFrom first ((n, w) ∷ fs) place (record { name = n; start = first; len = w })
  found_first le lt = record {
    low = le;
    high = lt;
    dependencies = 0;
    before = [];
    after = fs ++ [];
    stands = refl;
    begins = omega arith;
  }

  found_later : (f : FrameField) → IsFieldFrom (first + w) fs place f → IsFieldFrom first ((n, w) ∷ fs) place f
  found_later f r = record {
    low = r.low;
    high = r.high;
    dependencies = r.dependencies;
    before = (n, w) ∷ r.before;
    after = r.after;
    stands = ap (λ (rest : NamedFields). (n, w) ∷ rest) r.stands;
    begins = let b = r.begins in omega (arith, b, sum_by-cons width (n, w) r.before);
  }

  found_by : (t : Bool) → ltb place (first + w) ≡ t → first ≤ place
      → (first + w ≤ place → IsFieldFrom (first + w) fs place (field_from (first + w) fs place))
      → IsFieldFrom first ((n, w) ∷ fs) place
      (cond t (record { name = n; start = first; len = w }) (field_from (first + w) fs place))
  found_by true e le later = found_first le (ltb-true place (first + w) e)
  found_by false e le later =
      found_later (field_from (first + w) fs place) (later (ltb-false place (first + w) e))

found : (first : ℕ) (fs : NamedFields) (place : ℕ) → first ≤ place
    → IsFieldFrom first fs place (field_from first fs place)
found first [] place le = found_behind first place le
found first ((n, w) ∷ fs) place le =
    found_by first place w n fs (ltb place (first + w)) refl le (found (first + w) fs place)

pub is_field_at : (b : List ℕ) (place : ℕ) (f : FrameField) → f ≡ field_from 0 (fields_in b) place
    → IsFieldAt b place f
is_field_at b place f e =
    let P : FrameField → Type 0 = IsFieldAt b place in
    subst P (sym e) (found 0 (fields_in b) place (omega arith))

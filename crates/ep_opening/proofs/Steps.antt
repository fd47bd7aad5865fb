-- What single calls of the reader make of the bytes.
use Rattle.std.proofs.Common.{◌≡◌, ℕ, ◌-◌, ◌≤◌, Bool, true, false, cond, eqb, List, length, take, drop, Option, Some, None, Result, Ok, Err, sym, ap, ◌∙◌, subst, arith}
use Rattle.std.specs.Prelude.{IsErrAnd, ◌↔◌, IsTrue}
use Rattle.std.proofs.lemmas.Bool.{le-ltb}
use Rattle.ep_base.specs.Attributes.{same_list}
use Rattle.ep_base.specs.Instances.{IsInstance, number_of}
use Rattle.ep_base.specs.declared.version.Version.{Version}
use Rattle.ep_base.specs.declared.version_kind.VersionKind.TheVariants.{V3}
use Rattle.ep_rules.specs.OneMap.{Contents}
use Rattle.sha2.specs.Sha256.{sha256}
use Rattle.ep_bundle.specs.Headers.{map_in}
use Rattle.ep_bundle.specs.Reading.{Left, Reading, Reads}
use Rattle.ep_bundle.specs.Stages.{instance}
use Rattle.ep_bundle.specs.declared.bundle_fault.BundleFault.{BundleFault}
use Rattle.ep_bundle.proofs.Readings.{same_reading}
use Rattle.ep_opening.specs.Files.{File}
use Rattle.ep_opening.specs.Reading.{IsReadAs, FileReading, ReadsAs, and_reported, body_in, file, lead, lead_field, marked, parts, some_value, file_reading}
use Rattle.ep_opening.specs.declared.opening_fault.OpeningFault.{OpeningFault}
use Rattle.ep_opening.specs.declared.opening_fault.OpeningFault.TheVariants.{CutShort, Damaged}
use Rattle.ep_opening.proofs.FileReadings.{fails_reported, goes_on_reported, is_reported}

-- the seal

pub none_marked : (g p : ℕ) (zs : List ℕ) (left : Option (List ℕ)) → eqb g 1 ≡ true → left ≡ Some zs → Reads (marked g (record { at = p; bytes = zs })) (Ok None) p left
none_marked g p zs left e h = (zs, h, ap (λ (b : Bool). cond {A = Reading (Option (List ℕ))} b (Ok (None, record { at = p; bytes = zs })) (some_value (record { at = p; bytes = zs }))) e)

pub some_marked : (g : ℕ) (l : Left) (r : Result (Option (List ℕ)) BundleFault) (p : ℕ) (left : Option (List ℕ)) → eqb g 1 ≡ false → Reads (some_value l) r p left → Reads (marked g l) r p left
some_marked g l r p left e h = same_reading (marked g l) (some_value l) r p left (ap (λ (b : Bool). cond {A = Reading (Option (List ℕ))} b (Ok (None, l)) (some_value l)) e) h

-- instances and maps of a generation

pub instance_at : (v : Version) (n g : ℕ) (l : Left) (r : Result ℕ BundleFault) (p : ℕ) (left : Option (List ℕ)) → v ≡ V3 g → n ≡ 7 → Reads (instance v n l) r p left → Reads (instance (V3 g) 7 l) r p left
instance_at v n g l r p left is seven h = subst (λ (m : ℕ). Reads (instance (V3 g) m l) r p left) seven (subst (λ (w : Version). Reads (instance w n l) r p left) is h)

pub map_at : (v : Version) (g : ℕ) (l : Left) (r : Result Contents BundleFault) (p : ℕ) (left : Option (List ℕ)) → v ≡ V3 g → Reads (map_in v l) r p left → Reads (map_in (V3 g) l) r p left
map_at v g l r p left is h = subst (λ (w : Version). Reads (map_in w l) r p left) is h

pub is_positive : (i : ℕ) → IsInstance i → 1 ≤ i
is_positive i h = let low : 1 ≤ number_of i = h.1 in omega arith

pub not_so : {P : Type 0} (b : Bool) → b ≡ false → IsTrue b ↔ P → ¬ P
not_so b e h p = absurd (let t : true ≡ false = sym (h.1 p) ∙ e in cc)

-- the parts of a file

-- the whole

abbrev pub after_lead : List ℕ → List ℕ → ℕ → Left → FileReading File
after_lead bs digest x l = cond (same_list (sha256 bs) digest) (parts l) (Err (Damaged (length bs)))

abbrev pub start : List ℕ → Left
start bs = record { at = 0; bytes = bs }

-- the lead is at fault
pub lead_fails : (bs digest : List ℕ) (e : OpeningFault) (r : Result File OpeningFault) (p : ℕ) (left : Option (List ℕ)) → ReadsAs {A = ℕ} (file_reading lead_field (lead (start bs))) (Err e) p left → IsErrAnd r (λ x. x ≡ e) → IsReadAs (body_in bs digest) r
lead_fails bs digest e r p left h is = is_reported (body_in bs digest) r p left (fails_reported (file_reading lead_field (lead (start bs))) (after_lead bs digest) e r p p left left h is)

-- the digest is another
pub unsealed : (bs digest : List ℕ) (x p : ℕ) (left : Option (List ℕ)) → ReadsAs (file_reading lead_field (lead (start bs))) (Ok x) p left → same_list (sha256 bs) digest ≡ false → body_in bs digest ≡ Err (Damaged (length bs))
unsealed bs digest x p left h e =
    ap (λ (o : FileReading ℕ). and_reported o (after_lead bs digest)) h.2 ∙ ap (λ (b : Bool). cond {A = FileReading File} b (parts (record { at = p; bytes = h.0 })) (Err (Damaged (length bs)))) e

-- the other fields say what the whole is
pub sealed : (bs digest : List ℕ) (x p : ℕ) (left : Option (List ℕ)) (r : Result File OpeningFault) (q : ℕ) (left' : Option (List ℕ)) → ReadsAs (file_reading lead_field (lead (start bs))) (Ok x) p left → same_list (sha256 bs) digest ≡ true
    → ((ys : List ℕ) → left ≡ Some ys → ReadsAs (parts (record { at = p; bytes = ys })) r q left') → IsReadAs (body_in bs digest) r
sealed bs digest x p left r q left' h e next = is_reported (body_in bs digest) r q left'
    (goes_on_reported (file_reading lead_field (lead (start bs))) (after_lead bs digest) x p left r q left' h
    (λ ys k. subst (λ (b : Bool). ReadsAs {A = File} (cond b (parts (record { at = p; bytes = ys })) (Err (Damaged (length bs)))) r q left') (sym e) (next ys k)))

-- the length of the whole

pub long_enough : (bs front back : List ℕ) (r : Result File OpeningFault) → 59 ≤ length bs → front ≡ take (length bs - 32) bs → back ≡ drop (length bs - 32) bs → IsReadAs (body_in front back) r → IsReadAs (file bs) r
long_enough bs front back r le is at h = subst (λ (o : FileReading File). IsReadAs o r) (sym whole) (subst (λ (xs : List ℕ). IsReadAs (body_in xs (drop (length bs - 32) bs)) r) is (subst (λ (ys : List ℕ). IsReadAs (body_in front ys) r) at h))
  where
    whole : file bs ≡ body_in (take (length bs - 32) bs) (drop (length bs - 32) bs)
    whole = ap (λ (b : Bool). cond {A = FileReading File} b (Err (CutShort (length bs))) (body_in (take (length bs - 32) bs) (drop (length bs - 32) bs))) (le-ltb (length bs) 59 le)

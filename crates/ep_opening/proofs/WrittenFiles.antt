-- What is written is read back.
use Rattle.std.proofs.Common.{◌≡◌, ℕ, suc, ◌+◌, ◌-◌, ◌≤◌, ◌<◌, Bool, true, false, cond, eqb, ltb, List, [], ◌∷◌, ◌++◌, length, length-append, take, take_all, drop, drop_at, append-nil, append_assoc, Option, Some, None, Ok, Err, refl, sym, ap, ◌∙◌, subst, arith}
use Rattle.std.specs.FinMap.{entries}
use Rattle.std.specs.List.{flat_map}
use Rattle.std.proofs.lemmas.Bool.{eqb-true, ne_eqb, lt-ltb, le-ltb}
use Rattle.std.proofs.lemmas.List.Concat.{flat_map-cons}
use lib.Seq.{take-append-le}
use Rattle.ep_base.specs.Attributes.{same_list}
use Rattle.ep_base.specs.Deps.{AreInstances, IsDeps, IsRising, most_deps}
use Rattle.ep_base.specs.Instances.{IsInstance, leader_of}
use Rattle.ep_base.specs.Quorums.{size}
use Rattle.ep_base.specs.Values.{most_value}
use Rattle.ep_base.specs.declared.version_kind.VersionKind.TheVariants.{V3}
use Rattle.ep_base.proofs.Bound.{length-instances}
use Rattle.ep_base.proofs.Same.{Decides-same_list}
use Rattle.ep_base.proofs.Rising.{rising_front}
use Rattle.ep_exec.specs.Bytes.{contents_bytes, pair_bytes}
use Rattle.ep_frame.specs.Fields.{number_bytes, dep_bytes}
use Rattle.ep_frame.proofs.Again.{length-number_bytes}
use Rattle.sha2.specs.Sha256.{sha256}
use Rattle.sha2.proofs.Facts256.{length-sha256}
use Rattle.ep_bundle.specs.Headers.{cluster}
use Rattle.ep_bundle.specs.Reading.{Left, Reading, and_then, bad, run, field}
use Rattle.ep_bundle.specs.declared.bundle_field.BundleField.TheVariants.{Other}
use Rattle.ep_bundle.specs.declared.wanted.Wanted.TheVariants.{Higher}
use Rattle.ep_bundle.proofs.MapBytes.{contents_are}
use Rattle.ep_bundle.proofs.WrittenHeaders.{clustered, map_given}
use Rattle.ep_bundle.proofs.WrittenStages.{Gives, respelled, then_gives, made_of, ran, fielded, instanced}
use Rattle.ep_rules.specs.OneMap.{Contents}
use Rattle.ep_opening.specs.Bytes.{body_bytes, executed_bytes, front_bytes, lead_bytes, magic, seal_bytes}
use Rattle.ep_opening.specs.Files.{File, HasItsPast, HasItsSeal, IsFile, SealFits}
use Rattle.ep_opening.specs.Reading.{FilesAreReadBack, FileReading, above, and_reported, body_in, executed, executed_field, file, front, front_field, last_of, lead, lead_field, most_of, parts, rising, seal, seal_value, file_reading}
use Rattle.ep_opening.specs.declared.front.Front.{Front}
use Rattle.ep_opening.specs.declared.opening_fault.OpeningFault.TheVariants.{CutShort, Damaged}
use Rattle.ep_opening.specs.declared.opening_field.OpeningField.TheVariants.{Map}
use Rattle.ep_opening.proofs.Above.{last_is_below}
use Rattle.ep_opening.proofs.ReadFiles.{after_executed, after_front, after_map, made_front, seal_as}

lead_given : Gives lead lead_bytes 3
lead_given = then_gives (field Other 4 magic magic) (λ x l. field Other 1 3 3 l) (number_bytes 4 magic) (number_bytes 1 3) magic 3 (fielded _ 4 magic magic magic (omega arith) (omega arith) (omega arith)) (fielded _ 1 3 3 3 (omega arith) (omega arith) (omega arith))

-- the seal

value_given : (v : List ℕ) → length v ≤ most_value → Gives seal_value (number_bytes 4 (length v) ++ v) v
value_given v le = then_gives (field Other 4 0 most_value) (run Other) (number_bytes 4 (length v)) v (length v) v (fielded _ 4 0 most_value (length v) (omega arith) (omega arith) le) (ran _ (length v) v refl)

seal_given : (g : ℕ) (s : Option (List ℕ)) → HasItsSeal g s → SealFits s → Gives (seal g) (seal_bytes s) s
seal_given g None is fits =
    let none : Option (List ℕ) = None in
    subst (λ (k : ℕ). Gives (seal k) (number_bytes 1 0) none) (sym is) (made_of (field Other 1 0 0) (λ x l. Ok (none, l)) (number_bytes 1 0) 0 none (fielded _ 1 0 0 0 (omega arith) (omega arith) (omega arith)) (λ l. refl))
seal_given g (Some v) two fits =
    let some : Option (List ℕ) = Some v in
    let test : eqb g 1 ≡ false = ne_eqb g 1 (λ (e : g ≡ 1). omega arith) in
    subst (λ (b : Bool). Gives (seal_as b) (number_bytes 1 1 ++ (number_bytes 4 (length v) ++ v)) some) (sym test)
    (then_gives (field Other 1 1 1) (λ x l. and_then (seal_value l) (λ v l. Ok (Some v, l))) (number_bytes 1 1) (number_bytes 4 (length v) ++ v) 1 some (fielded _ 1 1 1 1 (omega arith) (omega arith) (omega arith))
    (made_of seal_value (λ v l. Ok (Some v, l)) (number_bytes 4 (length v) ++ v) v some (value_given v fits) (λ l. refl)))

-- the front

abbrev front_in : File → Front
front_in f = made_front f.faults f.generation f.opening.base_stamp f.seal

front_given : (f : File) → IsFile f → Gives front (front_bytes f) (front_in f)
front_given f h =
    let a = number_bytes 1 (size f.faults) in
    let b = number_bytes 4 f.generation in
    let c = number_bytes 8 f.opening.base_stamp in
    let d = seal_bytes f.seal in
    let low : 1 ≤ f.generation = h.generation.0 in
    let high : f.generation ≤ 4294967295 = h.generation.1 in
    let base_stamp : f.opening.base_stamp ≤ 281474976710655 = h.fits.1 in
    respelled front (a ++ (b ++ (c ++ d))) (front_bytes f) (front_in f) (group a b c d)
    (then_gives cluster (λ s l. and_then (field Other 4 1 4294967295 l) (λ g l. and_then (field Other 8 0 281474976710655 l) (λ t l. and_then (seal g l) (λ v l. Ok (made_front s g t v, l))))) a (b ++ (c ++ d)) f.faults (front_in f) (clustered f.faults h.least h.most)
    (then_gives (field Other 4 1 4294967295) (λ g l. and_then (field Other 8 0 281474976710655 l) (λ t l. and_then (seal g l) (λ v l. Ok (made_front f.faults g t v, l)))) b (c ++ d) f.generation (front_in f) (fielded _ 4 1 4294967295 f.generation (omega arith) low high)
    (then_gives (field Other 8 0 281474976710655) (λ t l. and_then (seal f.generation l) (λ v l. Ok (made_front f.faults f.generation t v, l))) c d f.opening.base_stamp (front_in f) (fielded _ 8 0 281474976710655 f.opening.base_stamp (omega arith) (omega arith) base_stamp)
    (made_of (seal f.generation) (λ v l. Ok (made_front f.faults f.generation f.opening.base_stamp v, l)) d f.seal (front_in f) (seal_given f.generation f.seal h.seal h.short) (λ l. refl)))))
  where
    group : (a b c d : List ℕ) → a ++ (b ++ (c ++ d)) ≡ a ++ b ++ c ++ d
    group a b c d = simp append_assoc

-- the instances

above_given : (g : ℕ) (is : List ℕ) (i : ℕ) → IsInstance i → last_of 0 is < i → Gives (above g is) (dep_bytes i) i
above_given g is i h lt at rest =
    let few : leader_of i ≤ 6 = h.0 in
    let p = instanced (V3 g) 7 i h (omega arith) h.2 at rest in (
      p.0,
      ap (λ (o : Reading ℕ). and_then o (λ j l. cond (ltb (last_of 0 is) j) (Ok (j, l)) (Err (bad Other 3 Higher (record { at = at; bytes = [] }))))) p.1
          ∙ ap (λ (b : Bool). cond b (Ok (i, record { at = p.0; bytes = rest })) (Err (bad Other 3 Higher (record { at = at; bytes = [] })))) (lt-ltb (last_of 0 is) i lt),
    )

rising_given : (g : ℕ) (before items : List ℕ) → IsRising (before ++ items) → AreInstances items → Gives (rising g (length items) before) (flat_map dep_bytes items) (before ++ items)
rising_given g before [] r a = λ at rest. (at, ap (λ (zs : List ℕ). Ok (zs, record { at = at; bytes = rest })) (sym (append-nil before)))
rising_given g before (i ∷ items) r a =
    let grouped : before ++ i ∷ [] ++ items ≡ before ++ i ∷ items = append_assoc before (i ∷ []) items in
    let rises : IsRising (before ++ i ∷ [] ++ items) = subst IsRising (sym grouped) r in
    let is : IsInstance i = a.0 in
    let least : 1 ≤ i = positive i is in
    respelled (rising g (suc (length items)) before) (dep_bytes i ++ flat_map dep_bytes items) (flat_map dep_bytes (i ∷ items)) (before ++ i ∷ items) (sym (flat_map-cons dep_bytes i items))
    (then_gives (above g before) (λ j l. rising g (length items) (before ++ j ∷ []) l) (dep_bytes i) (flat_map dep_bytes items) i (before ++ i ∷ items)
    (above_given g before i is (last_is_below before i least (rising_front (before ++ i ∷ []) items rises)))
    (subst (λ (zs : List ℕ). Gives (rising g (length items) (before ++ i ∷ [])) (flat_map dep_bytes items) zs) grouped (rising_given g (before ++ i ∷ []) items rises a.1)))
  where
    positive : (i : ℕ) → IsInstance i → 1 ≤ i
    positive i h = let low = h.1 in omega arith

few_enough : (g : ℕ) (is : List ℕ) → IsDeps is → HasItsPast g is → length is ≤ most_of g
few_enough g is d past = go (eqb g 1) refl
  where
    go : (b : Bool) → eqb g 1 ≡ b → length is ≤ cond b 0 most_deps
    go true e = let z : length is ≡ 0 = ap length (past (eqb-true g 1 e)) in omega arith
    go false e = length-instances is d.rising d.instances

executed_given : (g : ℕ) (is : List ℕ) → IsDeps is → HasItsPast g is → Gives (executed g) (executed_bytes is) is
executed_given g is d past =
    let bound : length is ≤ most_deps = length-instances is d.rising d.instances in
    then_gives (field Other 4 0 (most_of g)) (λ n l. rising g n [] l) (number_bytes 4 (length is)) (flat_map dep_bytes is) (length is) is (fielded _ 4 0 (most_of g) (length is) (omega arith) (omega arith) (few_enough g is d past))
    (rising_given g [] is d.rising d.instances)

-- all that stands behind the lead

parts_given : (f : File) → IsFile f → (at : ℕ) → (next : ℕ) × (parts (record { at = at; bytes = front_bytes f ++ contents_bytes f.opening.contents ++ executed_bytes f.executed }) ≡ Ok (f, record { at = next; bytes = [] }))
parts_given f h at =
    let a = front_bytes f in
    let b = contents_bytes f.opening.contents in
    let c = executed_bytes f.executed in
    let x = front_in f in
    let p = front_given f h at (b ++ c) in
    let q = map_given (V3 f.generation) f.opening tt h.fits.0 h.keys p.0 c in
    let r = executed_given f.generation f.executed h.deps h.past q.0 [] in (
      r.0,
      ap (λ (zs : List ℕ). parts (record { at = at; bytes = zs })) (append_assoc a b c)
          ∙ ap (λ (o : Reading Front). and_reported (file_reading front_field o) after_front) p.1
          ∙ ap (λ (o : Reading Contents). and_reported (file_reading (λ at. Map) o) (after_map x)) q.1
          ∙ ap (λ (zs : List ℕ). after_map x f.opening.contents (record { at = q.0; bytes = zs })) (sym (append-nil c))
          ∙ ap (λ (o : Reading (List ℕ)). and_reported (file_reading (executed_field q.0) o) (after_executed x f.opening.contents)) r.1,
    )

-- the whole

abbrev sealed : List ℕ → ℕ → Left → FileReading File
sealed bs x l = cond (same_list (sha256 bs) (sha256 bs)) (parts l) (Err (Damaged (length bs)))

body_given : (f : File) → IsFile f → (next : ℕ) × (body_in (body_bytes f) (sha256 (body_bytes f)) ≡ Ok (f, record { at = next; bytes = [] }))
body_given f h =
    let bs = body_bytes f in
    let tail = front_bytes f ++ contents_bytes f.opening.contents ++ executed_bytes f.executed in
    let p = lead_given 0 tail in
    let q = parts_given f h p.0 in (
      q.0,
      ap (λ (zs : List ℕ). and_reported (file_reading lead_field (lead (record { at = 0; bytes = zs }))) (sealed bs)) (group lead_bytes (front_bytes f) (contents_bytes f.opening.contents) (executed_bytes f.executed))
          ∙ ap (λ (o : Reading ℕ). and_reported (file_reading lead_field o) (sealed bs)) p.1
          ∙ ap (λ (b : Bool). cond b (parts (record { at = p.0; bytes = tail })) (Err (Damaged (length bs)))) ((Decides-same_list (sha256 bs) (sha256 bs)).1 refl)
          ∙ q.1,
    )
  where
    group : (a b c d : List ℕ) → a ++ b ++ c ++ d ≡ a ++ (b ++ c ++ d)
    group a b c d = simp append_assoc

-- no file is shorter than 59 bytes

long4 : (a b c d : List ℕ) → length (a ++ b ++ c ++ d) ≡ length a + length b + length c + length d
long4 a b c d = let e = length-append (a ++ b ++ c) d in let k = length-append (a ++ b) c in let m = length-append a b in omega arith

long_seal : (s : Option (List ℕ)) → 1 ≤ length (seal_bytes s)
long_seal None = let e = length-number_bytes 1 0 in omega arith
long_seal (Some v) = let e = length-number_bytes 1 1 in let k = length-append (number_bytes 1 1) (number_bytes 4 (length v) ++ v) in omega arith

long_counted : (n : ℕ) (bs : List ℕ) → 4 ≤ length (number_bytes 4 n ++ bs)
long_counted n bs = let e = length-number_bytes 4 n in let k = length-append (number_bytes 4 n) bs in omega arith

long_map : (m : Contents) → 4 ≤ length (contents_bytes m)
long_map m = subst (λ (zs : List ℕ). 4 ≤ length zs) (sym (contents_are m)) (long_counted (length (entries m)) (flat_map pair_bytes (entries m)))

long_body : (f : File) → 27 ≤ length (body_bytes f)
long_body f =
    let all = long4 lead_bytes (front_bytes f) (contents_bytes f.opening.contents) (executed_bytes f.executed) in
    let lead_is = length-append (number_bytes 4 magic) (number_bytes 1 3) in
    let four = length-number_bytes 4 magic in
    let one = length-number_bytes 1 3 in
    let front_is = long4 (number_bytes 1 (size f.faults)) (number_bytes 4 f.generation) (number_bytes 8 f.opening.base_stamp) (seal_bytes f.seal) in
    let a = length-number_bytes 1 (size f.faults) in
    let b = length-number_bytes 4 f.generation in
    let c = length-number_bytes 8 f.opening.base_stamp in
    let d = long_seal f.seal in
    let e = long_map f.opening.contents in
    let k = long_counted (length f.executed) (flat_map dep_bytes f.executed) in
    omega arith

read_back : (f : File) (bs sum : List ℕ) → 27 ≤ length bs → length sum ≡ 32 → (next : ℕ) × (body_in bs sum ≡ Ok (f, record { at = next; bytes = [] })) → (next : ℕ) × (file (bs ++ sum) ≡ Ok (f, record { at = next; bytes = [] }))
read_back f bs sum long len p =
    let both : length (bs ++ sum) ≡ length bs + length sum = length-append bs sum in
    let n : length (bs ++ sum) - 32 ≡ length bs = omega arith in
    let test : ltb (length (bs ++ sum)) 59 ≡ false = le-ltb (length (bs ++ sum)) 59 (omega arith) in
    let front_is : take (length (bs ++ sum) - 32) (bs ++ sum) ≡ bs = ap (λ (k : ℕ). take k (bs ++ sum)) n ∙ take-append-le (length bs) bs sum (omega arith) ∙ take_all (length bs) bs (omega arith) in
    let rest_is : drop (length (bs ++ sum) - 32) (bs ++ sum) ≡ sum = ap (λ (k : ℕ). drop k (bs ++ sum)) n ∙ drop_at bs sum (length bs) refl in (
      p.0,
      ap (λ (b : Bool). cond b (Err (CutShort (length (bs ++ sum)))) (body_in (take (length (bs ++ sum) - 32) (bs ++ sum)) (drop (length (bs ++ sum) - 32) (bs ++ sum)))) test
          ∙ (λ t. body_in (front_is t) (rest_is t))
          ∙ p.1,
    )

pub files_back : FilesAreReadBack
files_back f h = read_back f (body_bytes f) (sha256 (body_bytes f)) (long_body f) (length-sha256 (body_bytes f)) (body_given f h)

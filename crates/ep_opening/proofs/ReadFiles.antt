-- What is read of a file was taken: its bytes, as they are written.
use Rattle.std.proofs.Common.{◌≡◌, ℕ, zero, suc, ◌+◌, ◌-◌, ◌≤◌, ◌<◌, Bool, true, false, cond, eqb, ltb, List, [], ◌∷◌, ◌++◌, length, take, drop, append-nil, append_assoc, Option, Some, None, Ok, Err, refl, sym, ap, ◌∙◌, subst, arith}
use Rattle.std.specs.List.{flat_map}
use Rattle.std.proofs.lemmas.List.{take-append-drop}
use Rattle.ep_base.specs.Attributes.{same_list}
use Rattle.ep_base.specs.Quorums.{size}
use Rattle.ep_base.specs.Values.{most_value}
use Rattle.ep_base.specs.declared.version_kind.VersionKind.TheVariants.{V3}
use Rattle.ep_base.proofs.Same.{Decides-same_list}
use Rattle.ep_exec.specs.Bytes.{contents_bytes}
use Rattle.ep_frame.specs.Fields.{number_bytes, dep_bytes}
use Rattle.ep_frame.specs.Spelling.{AreBytes}
use Rattle.ep_frame.proofs.BigEndian.{wide1, wide4, wide8, IsBytes-take}
use Rattle.ep_rules.specs.OneMap.{Contents}
use Rattle.sha2.specs.Sha256.{sha256}
use Rattle.ep_bundle.specs.Bytes.{map_bytes}
use Rattle.ep_bundle.specs.Headers.{cluster, map_in}
use Rattle.ep_bundle.specs.Journals.{ended, none_in}
use Rattle.ep_bundle.specs.Reading.{Left, Reading, and_then, bad, run, field}
use Rattle.ep_bundle.specs.Stages.{instance}
use Rattle.ep_bundle.specs.declared.bundle_field.BundleField.TheVariants.{Other}
use Rattle.ep_bundle.specs.declared.wanted.Wanted.TheVariants.{Higher}
use Rattle.ep_bundle.proofs.ReadHeaders.{cluster_gives, map_gives}
use Rattle.ep_bundle.proofs.ReadNumbers.{Gives, Comes, Ranges, done, step, last, other, whole, choice, refused, rest_bytes, run_gives, field_gives}
use Rattle.ep_bundle.proofs.ReadParts.{instance_gives}
use Rattle.ep_opening.specs.Bytes.{body_bytes, executed_bytes, front_bytes, lead_bytes, magic, opening_bytes, seal_bytes}
use Rattle.ep_opening.specs.Files.{File}
use Rattle.ep_opening.specs.Reading.{FileReading, above, and_reported, body_in, executed, executed_field, file, file_of, front, front_field, last_of, lead, lead_field, most_of, parts, rising, seal, seal_value, file_reading}
use Rattle.ep_opening.specs.declared.front.Front.{Front}
use Rattle.ep_opening.specs.declared.opening_fault.OpeningFault.TheVariants.{CutShort, Damaged}
use Rattle.ep_opening.specs.declared.opening_field.OpeningField.TheVariants.{Map, Rest}
use Rattle.ep_opening.proofs.FileReadings.{reported_then, reporting_read}

pub the_same : (n x : ℕ) → Ranges n n x → x ≡ n
the_same n x p = let a : n ≤ x = p.least in let b : x ≤ n = p.most in omega arith

lead_gives : (l : Left) → AreBytes l.bytes → Gives (λ (x : ℕ). lead_bytes) (λ x. Unit {0}) l (lead l)
lead_gives l h =
    whole (step (field Other 4 magic magic l) (λ x m. field Other 1 3 3 m) h (field_gives _ 4 wide4 magic magic l h)
    (λ x m p k. last (field_gives _ 1 wide1 3 3 m k) (λ y q. (spelled x y (the_same magic x p) (the_same 3 y q), tt))))
  where
    spelled : (x y : ℕ) → x ≡ magic → y ≡ 3 → number_bytes 4 x ++ number_bytes 1 y ≡ lead_bytes
    spelled x y ex ey = (λ t. number_bytes 4 (ex t) ++ number_bytes 1 (ey t))

-- the seal

value_gives : (l : Left) → AreBytes l.bytes → Gives (λ (v : List ℕ). number_bytes 4 (length v) ++ v) (λ v. Unit {0}) l (seal_value l)
value_gives l h =
    whole (step (field Other 4 0 most_value l) (run Other) h (field_gives _ 4 wide4 0 most_value l h) (λ n m p k. last (run_gives _ n m k) (λ v q. (ap (λ (x : ℕ). number_bytes 4 x ++ v) (sym q.0), tt))))

-- where the test of the first generation comes out so
abbrev pub seal_as : Bool → Left → Reading (Option (List ℕ))
seal_as b l = and_then (field Other 1 (cond b 0 1) (cond b 0 1) l) (λ x l. cond b (Ok (None, l)) (and_then (seal_value l) (λ v l. Ok (Some v, l))))

seal_gives_as : (b : Bool) (l : Left) → AreBytes l.bytes → Gives seal_bytes (λ s. Unit {0}) l (seal_as b l)
seal_gives_as true l h =
    whole (step (field Other 1 0 0 l) (λ x m. Ok (None, m)) h (field_gives _ 1 wide1 0 0 l h)
    (λ x m p k. done {A = Option (List ℕ)} None (append-nil (number_bytes 1 x) ∙ ap (λ (y : ℕ). number_bytes 1 y) (the_same 0 x p), tt)))
seal_gives_as false l h =
    whole (step (field Other 1 1 1 l) (λ x m. and_then (seal_value m) (λ v l. Ok (Some v, l))) h (field_gives _ 1 wide1 1 1 l h)
    (λ x m p k. step (seal_value m) (λ v l. Ok (Some v, l)) k (value_gives m k)
    (λ v n q j. done {A = Option (List ℕ)} (Some v) (spelled x (number_bytes 4 (length v) ++ v) (the_same 1 x p), tt))))
  where
    spelled : (x : ℕ) (bs : List ℕ) → x ≡ 1 → number_bytes 1 x ++ (bs ++ []) ≡ number_bytes 1 1 ++ bs
    spelled x bs e = (λ t. number_bytes 1 (e t) ++ append-nil bs t)

seal_gives : (g : ℕ) (l : Left) → AreBytes l.bytes → Gives seal_bytes (λ s. Unit {0}) l (seal g l)
seal_gives g l h = seal_gives_as (eqb g 1) l h

-- the front

abbrev pub front_spelled : Front → List ℕ
front_spelled h = number_bytes 1 (size h.size) ++ number_bytes 4 h.generation ++ number_bytes 8 h.base_stamp ++ seal_bytes h.seal

abbrev pub made_front : ℕ → ℕ → ℕ → Option (List ℕ) → Front
made_front f g base_stamp s = record { size = f; generation = g; base_stamp = base_stamp; seal = s }

front_gives : (l : Left) → AreBytes l.bytes → Gives front_spelled (λ h. Unit {0}) l (front l)
front_gives l h =
    whole (step (cluster l) (λ f l. and_then (field Other 4 1 4294967295 l) (λ g l. and_then (field Other 8 0 281474976710655 l) (λ base_stamp l. and_then (seal g l) (λ s l. Ok (made_front f g base_stamp s, l))))) h (cluster_gives l h)
    (λ f l p h. step (field Other 4 1 4294967295 l) (λ g l. and_then (field Other 8 0 281474976710655 l) (λ base_stamp l. and_then (seal g l) (λ s l. Ok (made_front f g base_stamp s, l)))) h (field_gives _ 4 wide4 1 4294967295 l h)
    (λ g l q h. step (field Other 8 0 281474976710655 l) (λ base_stamp l. and_then (seal g l) (λ s l. Ok (made_front f g base_stamp s, l))) h (field_gives _ 8 wide8 0 281474976710655 l h)
    (λ base_stamp l r h. step (seal g l) (λ s l. Ok (made_front f g base_stamp s, l)) h (seal_gives g l h)
    (λ s l u h. done (made_front f g base_stamp s) (group (number_bytes 1 (size f)) (number_bytes 4 g) (number_bytes 8 base_stamp) (seal_bytes s), tt))))))
  where
    group : (a b c d : List ℕ) → a ++ (b ++ (c ++ (d ++ []))) ≡ a ++ b ++ c ++ d
    group a b c d = ap (λ (x : List ℕ). a ++ (b ++ (c ++ x))) (append-nil d) ∙ four a b c d
      where
        four : (a b c d : List ℕ) → a ++ (b ++ (c ++ d)) ≡ a ++ b ++ c ++ d
        four a b c d = simp append_assoc

-- the instances

above_gives : (g : ℕ) (is : List ℕ) (l : Left) → AreBytes l.bytes → Gives dep_bytes (λ i. Unit {0}) l (above g is l)
above_gives g is l h =
    whole (step (instance (V3 g) 7 l) (λ i m. cond (ltb (last_of 0 is) i) (Ok (i, m)) (Err (bad Other 3 Higher l))) h (instance_gives (V3 g) 7 l h)
    (λ i m p k. choice (ltb (last_of 0 is) i) (Ok (i, m)) (Err (bad Other 3 Higher l)) (λ e. done i (append-nil (dep_bytes i), tt)) (λ e. refused (bad Other 3 Higher l))))

record Climbed (n : ℕ) (before after : List ℕ) (bs : List ℕ) : Type 0 where
  items : List ℕ
  is : after ≡ before ++ items
  count : length items ≡ n
  bytes : bs ≡ flat_map dep_bytes items

rising_comes : (g n : ℕ) (before : List ℕ) (l : Left) → AreBytes l.bytes → Comes (Climbed n before) l (rising g n before l)
rising_comes g zero before l h = done before (record { items = []; is = sym (append-nil before); count = refl; bytes = refl })
rising_comes g (suc n) before l h =
    step (above g before l) (λ i m. rising g n (before ++ i ∷ []) m) h (above_gives g before l h)
    (λ i m p k. other (rising_comes g n (before ++ i ∷ []) m k)
    (λ after bs s. record { items = i ∷ s.items; is = s.is ∙ append_assoc before (i ∷ []) s.items; count = ap suc s.count; bytes = ap (λ r. dep_bytes i ++ r) s.bytes }))

executed_gives : (g : ℕ) (l : Left) → AreBytes l.bytes → Gives executed_bytes (λ is. Unit {0}) l (executed g l)
executed_gives g l h =
    whole (step (field Other 4 0 (most_of g) l) (λ n m. rising g n [] m) h (field_gives _ 4 wide4 0 (most_of g) l h)
    (λ n m p k. other (rising_comes g n [] m k) (λ is bs s. (spelled n s.items is bs (sym s.is) s.count s.bytes, tt))))
  where
    spelled : (n : ℕ) (items is bs : List ℕ) → items ≡ is → length items ≡ n → bs ≡ flat_map dep_bytes items → number_bytes 4 n ++ bs ≡ executed_bytes is
    spelled n items is bs e count b =
        ap (λ (x : List ℕ). number_bytes 4 n ++ x) b ∙ ap (λ (k : ℕ). number_bytes 4 k ++ flat_map dep_bytes items) (sym count) ∙ ap (λ (xs : List ℕ). number_bytes 4 (length xs) ++ flat_map dep_bytes xs) e

-- all that stands behind the lead

abbrev pub after_executed : Front → Contents → List ℕ → Left → FileReading File
after_executed h m is l = and_reported (file_reading (λ at. Rest) (ended l)) (λ x l. Ok (file_of h m is, l))

abbrev pub after_map : Front → Contents → Left → FileReading File
after_map h m l = and_reported (file_reading (executed_field l.at) (executed h.generation l)) (after_executed h m)

abbrev pub after_front : Front → Left → FileReading File
after_front h l = and_reported (file_reading (λ at. Map) (map_in (V3 h.generation) l)) (after_map h)

pub nothing_after : (bs : List ℕ) (l m : Left) (x : Unit {0}) → none_in bs l ≡ Ok (x, m) → bs ≡ []
nothing_after [] l m x h = refl
nothing_after (b ∷ bs) l m x h = absurd (cc)

abbrev reported_file : File → Left → FileReading File
reported_file f l = Ok (f, l)

same_file : (f f' : File) (l l' : Left) → reported_file f l ≡ reported_file f' l' → f ≡ f'
same_file f f' l l' h = let t : (f, l) ≡ (f', l') = (cc) in ap (λ (p : File × Left). p.0) t

parts_are : (l l' : Left) (f : File) → AreBytes l.bytes → parts l ≡ Ok (f, l') → l.bytes ≡ front_bytes f ++ contents_bytes f.opening.contents ++ executed_bytes f.executed
parts_are l l' f h e =
    let a = reported_then (file_reading front_field (front l)) after_front f l' e in
    let ta = (front_gives l h).took a.0 a.1 (reporting_read front_field (front l) a.0 a.1 a.2) in
    let ha = rest_bytes (front_spelled a.0) l a.1 h ta.1 in
    let b = reported_then (file_reading (λ at. Map) (map_in (V3 a.0.generation) a.1)) (after_map a.0) f l' a.3 in
    let tb = (map_gives (V3 a.0.generation) a.1 ha).took b.0 b.1 (reporting_read (λ at. Map) (map_in (V3 a.0.generation) a.1) b.0 b.1 b.2) in
    let hb = rest_bytes (contents_bytes b.0) a.1 b.1 ha tb.1 in
    let c = reported_then (file_reading (executed_field b.1.at) (executed a.0.generation b.1)) (after_executed a.0 b.0) f l' b.3 in
    let tc = (executed_gives a.0.generation b.1 hb).took c.0 c.1 (reporting_read (executed_field b.1.at) (executed a.0.generation b.1) c.0 c.1 c.2) in
    let d = reported_then (file_reading (λ at. Rest) (ended c.1)) (λ x l. Ok (file_of a.0 b.0 c.0, l)) f l' c.3 in
    let none = nothing_after c.1.bytes c.1 d.1 d.0 (reporting_read (λ at. Rest) (ended c.1) d.0 d.1 d.2) in
    joined l.bytes a.1.bytes b.1.bytes c.1.bytes (front_spelled a.0) (contents_bytes b.0) (executed_bytes c.0) ta.1.bytes tb.1.bytes tc.1.bytes none
    ∙ ap (λ (x : File). front_bytes x ++ contents_bytes x.opening.contents ++ executed_bytes x.executed) (same_file (file_of a.0 b.0 c.0) f d.1 l' d.3)
  where
    joined : (ws xs ys zs a b c : List ℕ) → ws ≡ a ++ xs → xs ≡ b ++ ys → ys ≡ c ++ zs → zs ≡ [] → ws ≡ a ++ b ++ c
    joined ws xs ys zs a b c p q r s =
        p ∙ ap (λ (x : List ℕ). a ++ x) (q ∙ ap (λ (x : List ℕ). b ++ x) (r ∙ ap (λ (x : List ℕ). c ++ x) s ∙ append-nil c)) ∙ sym (append_assoc a b c)

-- the whole

body_is : (bs digest : List ℕ) (f : File) (l : Left) → AreBytes bs → body_in bs digest ≡ Ok (f, l) → bs ++ digest ≡ opening_bytes f
body_is bs digest f l h e =
    let start : Left = record { at = 0; bytes = bs } in
    let a = reported_then (file_reading lead_field (lead start)) (λ x m. cond (same_list (sha256 bs) digest) (parts m) (Err (Damaged (length bs)))) f l e in
    let t = (lead_gives start h).took a.0 a.1 (reporting_read lead_field (lead start) a.0 a.1 a.2) in
    go (same_list (sha256 bs) digest) a.1 refl t.1.bytes (rest_bytes lead_bytes start a.1 h t.1) a.3
  where
    group : (a b c d : List ℕ) → a ++ (b ++ c ++ d) ≡ a ++ b ++ c ++ d
    group a b c d = simp append_assoc

    go : (b : Bool) (m : Left) → same_list (sha256 bs) digest ≡ b → bs ≡ lead_bytes ++ m.bytes → AreBytes m.bytes → cond b (parts m) (Err (Damaged (length bs))) ≡ Ok (f, l) → bs ++ digest ≡ opening_bytes f
    go true m same is k r =
        let all : bs ≡ body_bytes f = is ∙ ap (λ (x : List ℕ). lead_bytes ++ x) (parts_are m l f k r) ∙ group lead_bytes (front_bytes f) (contents_bytes f.opening.contents) (executed_bytes f.executed) in
        ap (λ (d : List ℕ). bs ++ d) (sym ((Decides-same_list (sha256 bs) digest).0 same)) ∙ ap (λ (x : List ℕ). x ++ sha256 x) all
    go false m other_sum is k r = absurd (cc)

pub file_is : (bs : List ℕ) (f : File) (l : Left) → AreBytes bs → file bs ≡ Ok (f, l) → bs ≡ opening_bytes f
file_is bs f l h e = go (ltb (length bs) 59) e
  where
    go : (b : Bool) → cond b (Err (CutShort (length bs))) (body_in (take (length bs - 32) bs) (drop (length bs - 32) bs)) ≡ Ok (f, l) → bs ≡ opening_bytes f
    go true r = absurd (cc)
    go false r = sym (take-append-drop (length bs - 32) bs) ∙ body_is (take (length bs - 32) bs) (drop (length bs - 32) bs) f l (IsBytes-take (length bs - 32) bs h) r

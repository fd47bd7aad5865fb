-- The header that is read is the header that is there.
use Rattle.std.proofs.Common.{◌≡◌, ℕ, ◌+◌, ◌*◌, ◌≤◌, ◌<◌, List, [], ◌∷◌, ◌++◌, length, take, drop, refl, ap, ◌∙◌, append_assoc, suc, ◌-◌, ◌/◌, ◌%◌, Bool, true, false, cond, eqb, arith}
use Rattle.std.specs.Prelude.{not, ◌&&◌}
use Rattle.std.specs.List.{flat_map}
use Rattle.std.proofs.lemmas.List.{take-append-drop, length-drop}
use Rattle.std.proofs.lemmas.List.Concat.{flat_map-cons}
use Rattle.ep_base.specs.Instances.{instance_of, leader_of, number_of}
use Rattle.ep_frame.specs.Fields.{header_at, header_bytes, spelled, start_fields, origin_fields, ballot_fields, vote_fields, text_len, body_fields, late_fields, header_len, number_at, dep_bytes, deps_in, number_bytes}
use Rattle.ep_frame.specs.Faults.{second_place, body_place, deps_place, frame_len}
use Rattle.ep_frame.specs.Spelling.{parts_bytes, parts_at}
use Rattle.ep_frame.proofs.Packing.{leader_again, number_again}
use Rattle.ep_frame.proofs.BigEndian.{IsBytes, IsBytes-drop, wide1, wide2, wide4, wide8, fields_from, spelled-fields_from, rest_is}

-- the field at 36, of the header that is read
pub text_len_found : (b : List ℕ) → text_len (header_at b) ≡ number_at 36 2 b
text_len_found b = go (eqb (number_at 2 1 b) 3) (eqb (number_at 34 1 b) 3)
  where
    go : (v p : Bool) → cond (not v && p) (cond v (number_at 44 4 b) (cond p (number_at 36 2 b) 0)) (cond (not v && p) 0 (number_at 36 2 b)) ≡ number_at 36 2 b
    go true p = refl
    go false true = refl
    go false false = refl

body_fields_found : (b : List ℕ) → body_fields (header_at b) ≡ fields_from (4 ∷ 1 ∷ 1 ∷ 2 ∷ 2 ∷ []) 30 b
body_fields_found b = λ t. (4, number_at 30 4 b) ∷ (1, number_at 34 1 b) ∷ (1, number_at 35 1 b) ∷ (2, text_len_found b t) ∷ (2, number_at 38 2 b) ∷ []

-- the fields of version 3, where it is one
late-found : (b : List ℕ) → IsBytes b → (c : Bool) → cond c 48 40 ≤ length b
    → spelled (cond c ((4, cond c (number_at 40 4 b) 0) ∷ (4, cond c (number_at 44 4 b) (cond (eqb (number_at 34 1 b) 3) (number_at 36 2 b) 0)) ∷ []) []) ++ drop (cond c 48 40) b ≡ drop 40 b
late-found b fits true le = spelled-fields_from (4 ∷ 4 ∷ []) 40 b (wide4, (wide4, tt)) fits le
late-found b fits false le = refl

pub header-found : (b : List ℕ) → IsBytes b → header_len (header_at b).version ≤ length b → 40 ≤ length b → header_bytes (header_at b) ++ drop (header_len (header_at b).version) b ≡ b
header-found b fits le long =
    let start = spelled-fields_from (2 ∷ 1 ∷ 1 ∷ 1 ∷ []) 0 b (wide2, (wide1, (wide1, (wide1, tt)))) fits (omega arith) in
    let origin = spelled-fields_from (1 ∷ 2 ∷ 4 ∷ 8 ∷ []) 5 b (wide1, (wide2, (wide4, (wide8, tt)))) fits (omega arith) in
    let ballot = spelled-fields_from (1 ∷ 2 ∷ 2 ∷ 1 ∷ []) 20 b (wide1, (wide2, (wide2, (wide1, tt)))) fits (omega arith) in
    let vote = spelled-fields_from (1 ∷ 2 ∷ 1 ∷ []) 26 b (wide1, (wide2, (wide1, tt))) fits (omega arith) in
    let own = spelled-fields_from (4 ∷ 1 ∷ 1 ∷ 2 ∷ 2 ∷ []) 30 b (wide4, (wide1, (wide1, (wide2, (wide2, tt))))) fits (omega arith) in
    let body : spelled (body_fields (header_at b)) ++ drop 40 b ≡ drop 30 b = ap (λ (fs : List (ℕ × ℕ)). spelled fs ++ drop 40 b) (body_fields_found b) ∙ own in
    let late = late-found b fits (eqb (number_at 2 1 b) 3) le in
    six (spelled (start_fields (header_at b))) (spelled (origin_fields (header_at b))) (spelled (ballot_fields (header_at b))) (spelled (vote_fields (header_at b))) (spelled (body_fields (header_at b)))
    (spelled (late_fields (header_at b))) (drop (header_len (header_at b).version) b) (drop 40 b) (drop 30 b) (drop 26 b) (drop 20 b) (drop 5 b) b late body vote ballot origin start
  where
    six : (s o a v y l r48 r40 r30 r26 r20 r5 b : List ℕ) → l ++ r48 ≡ r40 → y ++ r40 ≡ r30 → v ++ r30 ≡ r26 → a ++ r26 ≡ r20 → o ++ r20 ≡ r5 → s ++ r5 ≡ b → ((((s ++ o) ++ a) ++ v) ++ y) ++ l ++ r48 ≡ b
    six s o a v y l r48 r40 r30 r26 r20 r5 b e0 e1 e2 e3 e4 e5 = simp append_assoc (rw (e0, e1, e2, e3, e4, e5) refl)

three : (r a b : ℕ) → r < 256 → a < 256 → b < 256 → dep_bytes (instance_of r (a * 256 + b)) ≡ r ∷ a ∷ b ∷ []
unfolding number_bytes
three r a b hr ha hb =
    let el = leader_again r (a * 256 + b) (omega arith) in
    let en = number_again r (a * 256 + b) (omega arith) in
    let er : leader_of (instance_of r (a * 256 + b)) % 256 ≡ r = omega (arith, el) in
    let ea : number_of (instance_of r (a * 256 + b)) / 256 % 256 ≡ a = omega (arith, en) in
    let eb : number_of (instance_of r (a * 256 + b)) % 256 ≡ b = omega (arith, en) in
    λ t. er t ∷ ea t ∷ eb t ∷ []

pub deps-found : (bs : List ℕ) (n : ℕ) → IsBytes bs → length bs ≡ 3 * n → flat_map dep_bytes (deps_in bs) ≡ bs
deps-found [] n fits len = refl
deps-found (r ∷ []) n fits len = absurd (omega arith)
deps-found (r ∷ a ∷ []) n fits len = absurd (omega arith)
deps-found (r ∷ a ∷ b ∷ rest) n fits len =
    let i = instance_of r (a * 256 + b) in
    let here : dep_bytes i ≡ r ∷ a ∷ b ∷ [] = three r a b (fits 0) (fits 1) (fits 2) in
    let more : flat_map dep_bytes (deps_in rest) ≡ rest = deps-found rest (n - 1) (λ k. fits (suc (suc (suc k)))) (omega arith) in
    flat_map-cons dep_bytes i (deps_in rest) ∙ (λ t. here t ++ more t)

pub length-deps_in : (bs : List ℕ) (n : ℕ) → length bs ≡ 3 * n → length (deps_in bs) ≡ n
length-deps_in [] n len = omega arith
length-deps_in (r ∷ []) n len = absurd (omega arith)
length-deps_in (r ∷ a ∷ []) n len = absurd (omega arith)
length-deps_in (r ∷ a ∷ b ∷ rest) n len = let more = length-deps_in rest (n - 1) (omega arith) in omega (arith, more)

-- the parts of the bytes of a frame are its bytes
pub parts-found : (b : List ℕ) → IsBytes b → 40 ≤ length b → length b ≡ frame_len (header_at b) → parts_bytes (parts_at b) ≡ b
parts-found b fits le len =
    let h = header_at b in
    let n = header_len h.version in
    let deps : flat_map dep_bytes (deps_in (drop (deps_place h) b)) ≡ drop (deps_place h) b = deps-found (drop (deps_place h) b) h.count (IsBytes-drop (deps_place h) b fits) (omega (arith, length-drop (deps_place h) b)) in
    let body : take h.body_len (drop (body_place h) b) ++ drop (deps_place h) b ≡ drop (body_place h) b = after (body_place h) h.body_len b in
    let second : take h.second_len (drop (second_place h) b) ++ drop (body_place h) b ≡ drop (second_place h) b = after (second_place h) h.second_len b in
    let key : take h.key_len (drop n b) ++ drop (second_place h) b ≡ drop n b = after n h.key_len b in
    joined (header_bytes h) (take h.key_len (drop n b)) (take h.second_len (drop (second_place h) b)) (take h.body_len (drop (body_place h) b)) _ _ _ _ _ b deps body second key (header-found b fits (omega arith) le)
  where
    after : (i n : ℕ) (b : List ℕ) → take n (drop i b) ++ drop (i + n) b ≡ drop i b
    after i n b = rw (rest_is i n b) (take-append-drop n (drop i b))

    joined : (h k s v d rv rs rk r b : List ℕ) → d ≡ rv → v ++ rv ≡ rs → s ++ rs ≡ rk → k ++ rk ≡ r → h ++ r ≡ b → (((h ++ k) ++ s) ++ v) ++ d ≡ b
    joined h k s v d rv rs rk r b e1 e2 e3 e4 e5 = simp append_assoc (rw (e1, e2, e3, e4, e5) refl)

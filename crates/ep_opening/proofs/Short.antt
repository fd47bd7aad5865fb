-- Pieces are short, and none is empty.
use Rattle.std.proofs.Common.{◌≡◌, ℕ, suc, ◌+◌, ◌-◌, ◌<◌, ◌≤◌, List, [], ◌∷◌, ◌++◌, length, length-append, append-nil, get_or, take, drop, drop-cons, Option, Some, None, refl, sym, ap, subst, ◌∙◌, arith}
use Rattle.std.proofs.lemmas.Bool.{false≢true}
use Rattle.std.proofs.Math.Seq.{take-add}
use Rattle.std.proofs.lemmas.Grind.{flat_map-append}
use Rattle.std.proofs.lemmas.List.{drop-drop}
use Rattle.std.proofs.lemmas.List.Concat.{flat_map-cons}
use Rattle.std.proofs.lemmas.Option.{get_or_from_slice_get, slice_get_within}
use Rattle.std.specs.List.{flat_map}
use Rattle.std.specs.Prelude.{max, slice_get, IsTrue, ◌↔◌, true, false}
use Rattle.std.specs.FinMap.{entries}
use Rattle.ep_base.specs.Deps.{most_deps}
use Rattle.ep_base.specs.Quorums.{size}
use Rattle.ep_base.specs.Values.{most_value}
use Rattle.ep_bundle.proofs.MapBytes.{pair_is}
use Rattle.ep_exec.specs.Bytes.{pair_bytes}
use Rattle.ep_frame.proofs.Again.{length-deps, length-number_bytes}
use Rattle.ep_frame.specs.Fields.{dep_bytes, number_bytes}
use Rattle.sha2.proofs.Facts256.{length-sha256}
use Rattle.sha2.specs.Sha256.{sha256}
use Rattle.ep_opening.specs.Bytes.{body_bytes, executed_bytes, front_bytes, lead_bytes, magic, seal_bytes}
use Rattle.ep_opening.specs.Files.{File, SealFits}
use Rattle.ep_opening.specs.Pieces.{IsShort, body_left, bytes_between, head_bytes, left_of, longest_field}
use Rattle.ep_opening.specs.declared.stage.Stage.{Stage}
use Rattle.ep_opening.specs.declared.stage.Stage.TheVariants.{Front, Entries, Digest}

abbrev Pair : Type 0
Pair = List ℕ × List ℕ

-- One field is short.

short_by : (n : ℕ) (piece : List ℕ) → length piece ≡ n → 1 ≤ n → n ≤ 189004 → (most : ℕ) → IsShort most piece
unfolding longest_field
short_by n piece is some le most = record { some = omega arith; short = omega arith }

seal_len : (s : Option (List ℕ)) → SealFits s → length (seal_bytes s) ≤ 65540
seal_len None fits = let n = length-number_bytes 1 0 in omega arith
seal_len (Some v) fits =
    let a = length-number_bytes 1 1 in
    let b = length-number_bytes 4 (length v) in
    let c = length-append (number_bytes 1 1) (number_bytes 4 (length v) ++ v) in
    let d = length-append (number_bytes 4 (length v)) v in
    omega arith

lead_len : length lead_bytes ≡ 5
lead_len =
    let a = length-number_bytes 4 magic in
    let b = length-number_bytes 1 3 in
    let c = length-append (number_bytes 4 magic) (number_bytes 1 3) in
    omega arith

front_len : (f : File) → length (front_bytes f) ≡ 13 + length (seal_bytes f.seal)
front_len f =
    let a = number_bytes 1 (size f.faults) in
    let b = number_bytes 4 f.generation in
    let c = number_bytes 8 f.opening.base_stamp in
    let s = seal_bytes f.seal in
    omega (arith, length-append (a ++ b ++ c) s, length-append (a ++ b) c, length-append a b, length-number_bytes 1 (size f.faults), length-number_bytes 4 f.generation, length-number_bytes 8 f.opening.base_stamp)

pub head_short : (f : File) (piece : List ℕ) → piece ≡ head_bytes f → SealFits f.seal → (most : ℕ) → IsShort most piece
head_short f piece is fits =
    let n : List ℕ = number_bytes 4 (length (entries f.opening.contents)) in
    let all : length piece ≡ length (lead_bytes ++ front_bytes f ++ n) = ap length is in
    let a = length-append (lead_bytes ++ front_bytes f) n in
    let b = length-append lead_bytes (front_bytes f) in
    let c = length-number_bytes 4 (length (entries f.opening.contents)) in
    let d = lead_len in
    let e = front_len f in
    let g = seal_len f.seal fits in
    short_by (length piece) piece refl (omega arith) (omega arith)

pub tail_short : (is piece : List ℕ) → piece ≡ executed_bytes is → length is ≤ most_deps → (most : ℕ) → IsShort most piece
tail_short is piece same le =
    let n = number_bytes 4 (length is) in
    let all : length piece ≡ length (n ++ flat_map dep_bytes is) = ap length same in
    let a = length-append n (flat_map dep_bytes is) in
    let b = length-number_bytes 4 (length is) in
    let c = length-deps is in
    short_by (length piece) piece refl (omega arith) (omega arith)

-- One entry.

pub pair_len : (e : Pair) → length (pair_bytes e) ≡ 5 + length e.0 + length e.1
pair_len e =
    let k = number_bytes 1 (length e.0) in
    let v = number_bytes 4 (length e.1) in
    let all : length (pair_bytes e) ≡ length (k ++ v ++ e.0 ++ e.1) = ap length (pair_is e) in
    omega (arith, all, length-append (k ++ v ++ e.0) e.1, length-append (k ++ v) e.0, length-append k v, length-number_bytes 1 (length e.0), length-number_bytes 4 (length e.1))

pub pair_short : (key value : ℕ) → key ≤ 255 → value ≤ most_value → 5 + key + value ≤ longest_field
unfolding longest_field
pair_short key value k v = omega arith

-- Entries.

one_at : (es : List Pair) (i : ℕ) (e : Pair) → i < length es → get_or es i e ≡ e → bytes_between i (suc i) es ≡ pair_bytes e
one_at es i e lt is =
    let one : suc i - i ≡ 1 = omega arith in
    let front : drop i es ≡ e ∷ drop (suc i) es = drop-cons es i e lt ∙ ap (λ (x : Pair). x ∷ drop (suc i) es) is in
    ap (λ (k : ℕ). flat_map pair_bytes (take k (drop i es))) one
    ∙ ap (λ (xs : List Pair). flat_map pair_bytes (take 1 xs)) front
    ∙ flat_map-cons pair_bytes e []
    ∙ append-nil (pair_bytes e)

-- an entry that was looked up
found_len : (es : List Pair) (i : ℕ) (e : Pair) → slice_get es i ≡ Some e → length (bytes_between i (suc i) es) ≡ length (pair_bytes e)
found_len es i e h = ap length (one_at es i e (slice_get_within es i e h) (get_or_from_slice_get es i e e h))

pub room_is : (es : List Pair) (place room len : ℕ) (e : Pair) → slice_get es place ≡ Some e → len ≡ length (pair_bytes e) → len ≤ room → length (bytes_between place (suc place) es) + (room - len) ≡ room
room_is es place room len e h is le = let found : length (bytes_between place (suc place) es) ≡ length (pair_bytes e) = found_len es place e h in omega (arith, found, is, le)

-- an entry that is there
pub read_len : (es : List Pair) (i : ℕ) (e : Pair) → i < length es → e ≡ get_or es i e → length (bytes_between i (suc i) es) ≡ length (pair_bytes e)
read_len es i e lt is = ap length (one_at es i e lt (sym is))

one_more : (es : List Pair) (start end : ℕ) → start ≤ end → length (bytes_between start (suc end) es) ≡ length (bytes_between start end es) + length (bytes_between end (suc end) es)
one_more es start end le =
    let n : ℕ = end - start in
    let more : suc end - start ≡ n + 1 = omega arith in
    let far : start + n ≡ end = omega arith in
    let one : 1 ≡ suc end - end = omega arith in
    let rest : List Pair = drop start es in
    let behind : drop n rest ≡ drop end es = drop-drop n start es ∙ ap (λ (k : ℕ). drop k es) far in
    ap length (ap (λ (k : ℕ). flat_map pair_bytes (take k rest)) more
    ∙ ap (λ (xs : List Pair). flat_map pair_bytes xs) (take-add n 1 rest)
    ∙ flat_map-append pair_bytes (take n rest) (take 1 (drop n rest))
    ∙ ap (λ (xs : List Pair). flat_map pair_bytes (take n rest) ++ flat_map pair_bytes (take 1 xs)) behind
    ∙ ap (λ (k : ℕ). flat_map pair_bytes (take n rest) ++ flat_map pair_bytes (take k (drop end es))) one)
    ∙ length-append (bytes_between start end es) (bytes_between end (suc end) es)

-- the entries from start up to end, with what is left, have room
pub record HaveRoom (es : List Pair) (start end left most : ℕ) : Type 0 where
  pub more : start < end
  pub within : end ≤ length es
  pub some : 1 ≤ length (bytes_between start end es)
  pub room : length (bytes_between start end es) + left ≤ max most longest_field

pub next_has_room : (es : List Pair) (start end next left rest most : ℕ) → HaveRoom es start end left most → next ≡ end + 1 → end < length es
    → length (bytes_between end (suc end) es) + rest ≡ left → HaveRoom es start next rest most
next_has_room es start end next left rest most h is lt left_is =
    let same : suc end ≡ next = omega arith in
    let before : start < end = h.more in
    let le : start ≤ end = omega arith in
    let len : length (bytes_between start (suc end) es) ≡ length (bytes_between start end es) + length (bytes_between end (suc end) es) = one_more es start end le in
    let some : 1 ≤ length (bytes_between start end es) = h.some in
    let room : length (bytes_between start end es) + left ≤ max most longest_field = h.room in
    let many : ℕ = max most longest_field in
    record {
      more = omega arith;
      within = omega arith;
      some = subst (λ (k : ℕ). 1 ≤ length (bytes_between start k es)) same (omega (arith, len, some));
      room = subst (λ (k : ℕ). length (bytes_between start k es) + rest ≤ max most longest_field) same (fits (length (bytes_between start end es)) (length (bytes_between start (suc end) es)) (length (bytes_between end (suc end) es)) many room len left_is);
    }
  where
    fits : (a b c many : ℕ) → a + left ≤ many → b ≡ a + c → c + rest ≡ left → b + rest ≤ many
    fits a b c many le b_is c_is = omega arith

pub entries_short : (es : List Pair) (start end most : ℕ) (piece : List ℕ) → piece ≡ bytes_between start end es → 1 ≤ length (bytes_between start end es)
    → length (bytes_between start end es) ≤ max most longest_field → IsShort most piece
entries_short es start end most piece is some short = record {
  some = subst (λ (bs : List ℕ). 1 ≤ length bs) (sym is) some;
  short = subst (λ (bs : List ℕ). length bs ≤ max most longest_field) (sym is) short;
}

-- What was given.

pub is_something : (most : ℕ) (piece left : List ℕ) → IsShort most piece → piece ≡ [] → left ≡ []
is_something most piece left p is =
    let len : length piece ≡ 0 = ap length is in
    let some : 1 ≤ length piece = p.some in
    absurd (omega arith)

-- the digest is short
pub sum_short : (most : ℕ) (sum : List ℕ) → length sum ≡ 32 → IsShort most sum
sum_short most sum len = short_by 32 sum len (omega arith) (omega arith) most

-- and isn't nothing
is_left : (body m : List ℕ) → IsTrue false ↔ (body ++ sha256 m ≡ [])
is_left body m = ((λ (e : false ≡ true). absurd (false≢true e)), (λ (e : body ++ sha256 m ≡ []). absurd (none e)))
  where
    none : body ++ sha256 m ≡ [] → ⊥
    none e =
        let a : length (body ++ sha256 m) ≡ 0 = ap length e in
        let b = length-append body (sha256 m) in
        let c = length-sha256 m in
        omega arith

left_is : (body m left : List ℕ) → left ≡ body ++ sha256 m → IsTrue false ↔ (left ≡ [])
left_is body m left is = subst (λ (l : List ℕ). IsTrue false ↔ (l ≡ [])) (sym is) (is_left body m)

pub left_at_front : (f : File) (s : Stage) (left : List ℕ) → left_of f s ≡ left → s ≡ Front → IsTrue false ↔ (left ≡ [])
left_at_front f s left is at = left_is (body_bytes f) (body_bytes f) left (sym is ∙ ap (λ (x : Stage). left_of f x) at)

pub left_at_entries : (f : File) (s : Stage) (left : List ℕ) (i : ℕ) → left_of f s ≡ left → s ≡ Entries i → IsTrue false ↔ (left ≡ [])
left_at_entries f s left i is at = left_is (body_left f (Entries i)) (body_bytes f) left (sym is ∙ ap (λ (x : Stage). left_of f x) at)

pub left_at_digest : (f : File) (s : Stage) (left : List ℕ) → left_of f s ≡ left → s ≡ Digest → IsTrue false ↔ (left ≡ [])
left_at_digest f s left is at = left_is [] (body_bytes f) left (sym is ∙ ap (λ (x : Stage). left_of f x) at)

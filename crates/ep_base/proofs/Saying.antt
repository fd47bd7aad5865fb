-- What stands behind a key in the bytes of an item.
use Rattle.std.proofs.Common.{◌≡◌, ℕ, zero, suc, ◌+◌, ◌-◌, ◌%◌, ◌≤◌, List, [], ◌∷◌, ◌++◌, length, take, drop, append_assoc, length-append, length-take-le, length-drop, Option, Some, None, Bool, true, false, refl, sym, ap, subst, ◌∙◌, arith}
use Rattle.std.specs.Prelude.{◌&&◌, ◌||◌, IfNone, eqb, is_some, slice_index}
use Rattle.std.specs.Cmp.{both_ways}
use Rattle.std.specs.Cmp.Derive.{both_true}
use Rattle.std.proofs.Math.Seq.{take-append_seam, drop-append_seam, take-append-add}
use Rattle.std.proofs.lemmas.Bool.{and_parts, le-leb}
use Rattle.std.proofs.lemmas.List.{take-append-drop, drop-drop}
use Rattle.ep_base.specs.Attributes.{same_list}
use Rattle.ep_base.specs.Ops.{is_key_len}
use Rattle.ep_base.specs.CommandParts.{flag, write_flag, flags_of, item_at, item_bytes, items_at, items_bytes, is_item, all_items, are_items_at, IsItemLen, guard_in, guard_bytes, write_in, write_bytes, write_behind, said_bytes, is_short_in, IsGuardLen, IsWriteLen, IsSaidLen}
use Rattle.ep_base.proofs.Same.{Decides-same_list}

pub on_none : {X : Type 0} {P : Type 0} (r : Option X) → P → IfNone r P
on_none None p = p
on_none (Some x) p = tt

-- no guard, and so nothing is said
pub no_guard : (f : ℕ) (b : List ℕ) → IsGuardLen f b None → IsSaidLen f b None
no_guard f b none =
    let g = guard_bytes (guard_in f b) in
    let w = write_bytes (write_behind f b) in
    λ short shorter rest e. none short (w ++ rest) (e ∙ append_assoc g w rest)

guard_len : (f : ℕ) (b : List ℕ) (n : ℕ) → IsGuardLen f b (Some n) → n ≡ length (guard_bytes (guard_in f b))
guard_len f b n h = sym (length-take-le n b h.0) ∙ ap length h.1

behind : (f : ℕ) (b r : List ℕ) (n : ℕ) → IsGuardLen f b (Some n) → r ≡ drop n b → write_in f r ≡ write_behind f b
behind f b r n h e = ap (write_in f) (e ∙ ap (λ k. drop k b) (guard_len f b n h))

-- a guard, and nothing that is written behind it
pub no_write : (f : ℕ) (b r : List ℕ) (n : ℕ) → IsGuardLen f b (Some n) → r ≡ drop n b → IsWriteLen f r None → IsSaidLen f b None
no_write f b r n h e none =
    let g = guard_bytes (guard_in f b) in
    let w = write_bytes (write_behind f b) in
    λ short shorter rest is.
    none (ap is_short_in (behind f b r n h e) ∙ shorter) rest
    (e ∙ ap (λ k. drop k b) (guard_len f b n h) ∙ ap (λ x. drop (length g) x) (is ∙ append_assoc g w rest) ∙ drop-append_seam g (w ++ rest) ∙ ap (λ o. write_bytes o ++ rest) (sym (behind f b r n h e)))

-- both
pub both_said : (f : ℕ) (b r : List ℕ) (n m : ℕ) → IsGuardLen f b (Some n) → r ≡ drop n b → IsWriteLen f r (Some m) → IsSaidLen f b (Some (n + m))
both_said f b r n m h e k =
    let g = guard_bytes (guard_in f b) in
    let w = write_bytes (write_behind f b) in
    let write : take m (drop n b) ≡ w = ap (λ x. take m x) (sym e) ∙ k.1 ∙ ap write_bytes (behind f b r n h e) in
    let tail = drop m (drop n b) in
    let split : b ≡ (g ++ w) ++ tail =
    sym (take-append-drop n b) ∙ (λ i. h.1 i ++ (sym (take-append-drop m (drop n b)) ∙ ap (λ x. x ++ tail) write) i) ∙ sym (append_assoc g w tail) in
    let rest : m ≤ length (drop n b) = subst (λ x. m ≤ length x) e k.0 in
    let len : length (drop n b) ≡ length b - n = length-drop n b in
    let le : n ≤ length b = h.0 in
    let wl : length w ≡ m = sym (ap length write) ∙ length-take-le m (drop n b) rest in
    let size : length (g ++ w) ≡ n + m = length-append g w ∙ (λ i. sym (guard_len f b n h) i + wl i) in
    (omega arith, ap (λ x. take x b) (sym size) ∙ ap (λ x. take (length (g ++ w)) x) split ∙ take-append_seam (g ++ w) tail, h.2, sym (ap is_short_in (behind f b r n h e)) ∙ k.2)

-- The flags of an item are those that it was read by.

flags_back : (f : ℕ) → f ≤ 11 → (z x : List ℕ) → flag 1 (eqb (f % 2) 1) + flag 2 (is_some (guard_in f z)) + write_flag (write_in f x) ≡ f
flags_back zero h z x = refl
flags_back (suc zero) h z x = refl
flags_back (suc (suc zero)) h z x = refl
flags_back (suc (suc (suc zero))) h z x = refl
flags_back (suc (suc (suc (suc zero)))) h z x = refl
flags_back (suc (suc (suc (suc (suc zero))))) h z x = refl
flags_back (suc (suc (suc (suc (suc (suc zero)))))) h z x = refl
flags_back (suc (suc (suc (suc (suc (suc (suc zero))))))) h z x = refl
flags_back (suc (suc (suc (suc (suc (suc (suc (suc zero)))))))) h z x = refl
flags_back (suc (suc (suc (suc (suc (suc (suc (suc (suc zero))))))))) h z x = refl
flags_back (suc (suc (suc (suc (suc (suc (suc (suc (suc (suc zero)))))))))) h z x = refl
flags_back (suc (suc (suc (suc (suc (suc (suc (suc (suc (suc (suc zero))))))))))) h z x = refl
flags_back (suc (suc (suc (suc (suc (suc (suc (suc (suc (suc (suc (suc f)))))))))))) h z x = absurd (omega (arith, h))

says_some : (t : Bool) (g w : Option (Option (List ℕ))) → 1 ≤ flag 1 t + flag 2 (is_some g) + write_flag w → (t || is_some g || is_some w) ≡ true
says_some true g w h = refl
says_some false (Some o) w h = refl
says_some false None (Some o) h = refl
says_some false None None h = absurd (omega (arith, h))

-- the key and what is said of it, behind its length and the flags
module _ (k f : ℕ) (y : List ℕ) (some : 1 ≤ k) (byte : k ≤ 255) (low : 1 ≤ f) (high : f ≤ 11) (there : k ≤ length y) where
  key_long : length (take k y) ≡ k
  key_long = length-take-le k y there

  flags_are : flags_of (item_at (k ∷ f ∷ y)) ≡ f
  flags_are = flags_back f high (drop k y) (drop (length (guard_bytes (guard_in f (drop k y)))) (drop k y))

  one_both : (n : ℕ) → IsSaidLen f (drop k y) (Some n) → IsItemLen (k ∷ f ∷ y) (Some (2 + k + n))
  one_both n h =
      let z = drop k y in
      let i = item_at (k ∷ f ∷ y) in
      let len : length z ≡ length y - k = length-drop k y in
      let le : n ≤ length z = h.0 in
      let count : 2 + k + n ≡ suc (suc (k + n)) = omega arith in
      let front : take (k + n) y ≡ take k y ++ take n z =
      (λ d. take (sym key_long d + n) (sym (take-append-drop k y) d)) ∙ take-append-add (take k y) z n in
      let key : is_key_len (length (take k y)) ≡ true = ap is_key_len key_long ∙ both_true (le-leb 1 k some) (le-leb k 255 byte) in
      let says : (i.reported || is_some i.guard || is_some i.write) ≡ true = says_some i.reported i.guard i.write (subst (λ m. 1 ≤ m) (sym flags_are) low) in (
        omega arith,
        ap (λ m. take m (k ∷ f ∷ y)) count ∙ (λ d. sym key_long d ∷ sym flags_are d ∷ front d) ∙ ap (λ x. length (take k y) ∷ flags_of i ∷ (take k y ++ x)) h.1,
        both_true key (both_true says (both_true h.2 h.3)),
      )

  one_none : IsSaidLen f (drop k y) None → IsItemLen (k ∷ f ∷ y) None
  one_none none = λ is rest e.
      let i = item_at (k ∷ f ∷ y) in
      let said = said_bytes f (drop k y) in
      let p = and_parts (is_key_len (length i.key)) ((i.reported || is_some i.guard || is_some i.write) && (is_short_in i.guard && is_short_in i.write)) is in
      let q = and_parts (i.reported || is_some i.guard || is_some i.write) (is_short_in i.guard && is_short_in i.write) p.1 in
      let r = and_parts (is_short_in i.guard) (is_short_in i.write) q.1 in
      let tail : y ≡ (take k y ++ said) ++ rest = ap (λ b. drop 2 b) e in
      none r.0 r.1 rest (ap (λ m. drop m y) (sym key_long) ∙ ap (λ x. drop (length (take k y)) x) (tail ∙ append_assoc (take k y) said rest) ∙ drop-append_seam (take k y) (said ++ rest))

behind_both : (k f : ℕ) (y : List ℕ) → drop (2 + k) (k ∷ f ∷ y) ≡ drop k y
behind_both k f y = sym (drop-drop k 2 (k ∷ f ∷ y))

pub item_both : (b r : List ℕ) (n : ℕ) → 2 ≤ length b → 1 ≤ slice_index b 0 → slice_index b 0 ≤ 255 → 1 ≤ slice_index b 1 → slice_index b 1 ≤ 11 → slice_index b 0 ≤ length b - 2 → r ≡ drop (2 + slice_index b 0) b
    → IsSaidLen (slice_index b 1) r (Some n) → IsItemLen b (Some (2 + slice_index b 0 + n))
item_both [] r n two some byte low high there e h = absurd (omega (arith, two))
item_both (k ∷ []) r n two some byte low high there e h = absurd (omega (arith, two))
item_both (k ∷ f ∷ y) r n two some byte low high there e h = one_both k f y some byte low high (omega (arith, there)) n (subst (λ x. IsSaidLen f x (Some n)) (e ∙ behind_both k f y) h)

pub item_none : (b r : List ℕ) → 2 ≤ length b → 1 ≤ slice_index b 0 → slice_index b 0 ≤ 255 → 1 ≤ slice_index b 1 → slice_index b 1 ≤ 11 → slice_index b 0 ≤ length b - 2 → r ≡ drop (2 + slice_index b 0) b
    → IsSaidLen (slice_index b 1) r None → IsItemLen b None
item_none [] r two some byte low high there e h = absurd (omega (arith, two))
item_none (k ∷ []) r two some byte low high there e h = absurd (omega (arith, two))
item_none (k ∷ f ∷ y) r two some byte low high there e h = one_none k f y some byte low high (omega (arith, there)) (subst (λ x. IsSaidLen f x None) (e ∙ behind_both k f y) h)

-- the item that is seen is the one that the bytes begin with
pub item_seen : (b r key : List ℕ) (g w : Option (Option (List ℕ))) → r ≡ drop (2 + slice_index b 0) b → key ≡ take (2 + slice_index b 0 - 2) (drop 2 b) → g ≡ guard_in (slice_index b 1) r → w ≡ write_behind (slice_index b 1) r
    → record { key = key; guard = g; reported = eqb (slice_index b 1 % 2) 1; write = w } ≡ item_at b
item_seen b r key g w e is eg ew =
    let k = slice_index b 0 in
    let rest : r ≡ drop k (drop 2 b) = e ∙ sym (drop-drop k 2 b) in
    let own : key ≡ take k (drop 2 b) = is ∙ ap (λ m. take m (drop 2 b)) (let s : 2 + k - 2 ≡ k = omega arith in s) in
    let guard : g ≡ guard_in (slice_index b 1) (drop k (drop 2 b)) = eg ∙ ap (guard_in (slice_index b 1)) rest in
    let write : w ≡ write_behind (slice_index b 1) (drop k (drop 2 b)) = ew ∙ ap (write_behind (slice_index b 1)) rest in
    λ d. record { key = own d; guard = guard d; reported = eqb (slice_index b 1 % 2) 1; write = write d }

-- One item of several.

item_length : (b : List ℕ) (k : ℕ) → IsItemLen b (Some k) → k ≡ length (item_bytes (item_at b))
item_length b k h = sym (length-take-le k b h.0) ∙ ap length h.1

-- what is left behind the first item
abbrev behind_first : List ℕ → List ℕ
behind_first b = drop (length (item_bytes (item_at b))) b

-- such bytes are the first item and the others
record Several (m : ℕ) (b : List ℕ) : Type 0 where
  whole : b ≡ item_bytes (item_at b) ++ items_bytes (items_at m (behind_first b))
  first : is_item (item_at b) ≡ true
  others : all_items (items_at m (behind_first b)) ≡ true

several : (m : ℕ) (b : List ℕ) → are_items_at (suc m) b ≡ true → Several m b
several m b h =
    let is = items_at m (behind_first b) in
    let p = and_parts (same_list b (item_bytes (item_at b) ++ items_bytes is)) (is_item (item_at b) && all_items is) h in
    let q = and_parts (is_item (item_at b)) (all_items is) p.1 in
    record { whole = (Decides-same_list b (item_bytes (item_at b) ++ items_bytes is)).0 p.0; first = q.0; others = q.1 }

others_left : (m : ℕ) (b : List ℕ) → Several m b → behind_first b ≡ items_bytes (items_at m (behind_first b))
others_left m b s = ap (λ x. drop (length (item_bytes (item_at b))) x) s.whole ∙ drop-append_seam (item_bytes (item_at b)) (items_bytes (items_at m (behind_first b)))

others_there : (m : ℕ) (b : List ℕ) → Several m b → are_items_at m (behind_first b) ≡ true
others_there m b s = both_true ((Decides-same_list (behind_first b) (items_bytes (items_at m (behind_first b)))).1 (others_left m b s)) s.others

-- there is always a first one
pub never_none : {X : Type 0} (n : ℕ) (b : List ℕ) → 1 ≤ n → are_items_at n b ≡ true → IsItemLen b None → X
never_none zero b some h none = absurd (omega (arith, some))
never_none (suc m) b some h none = let s = several m b h in absurd (none s.first (items_bytes (items_at m (behind_first b))) s.whole)

one_less : (m : ℕ) → m ≡ suc m - 1
one_less m = omega arith

pub rest_there : (n : ℕ) (b r : List ℕ) (k : ℕ) → 1 ≤ n → are_items_at n b ≡ true → IsItemLen b (Some k) → r ≡ drop k b → are_items_at (n - 1) r ≡ true
rest_there zero b r k some h len e = absurd (omega (arith, some))
rest_there (suc m) b r k some h len e =
    let left : behind_first b ≡ r = ap (λ j. drop j b) (sym (item_length b k len)) ∙ sym e in
    (λ d. are_items_at (sym (one_less m) d) (sym left d)) ∙ others_there m b (several m b h)

pub first_and_rest : (n : ℕ) (b r : List ℕ) (k : ℕ) → 1 ≤ n → IsItemLen b (Some k) → r ≡ drop k b → items_at n b ≡ item_at b ∷ items_at (n - 1) r
first_and_rest zero b r k some len e = absurd (omega (arith, some))
first_and_rest (suc m) b r k some len e =
    let left : behind_first b ≡ r = ap (λ j. drop j b) (sym (item_length b k len)) ∙ sym e in
    λ d. item_at b ∷ items_at (one_less m d) (left d)

-- Going down the items of bytes that may be none.

pub counted_step : (n : ℕ) (b r : List ℕ) (k : ℕ) → 1 ≤ n → IsItemLen b (Some k) → r ≡ drop k b → are_items_at (n - 1) r ≡ are_items_at n b
counted_step zero b r k some len e = absurd (omega (arith, some))
counted_step (suc m) b r k some len e =
    let left : behind_first b ≡ r = ap (λ j. drop j b) (sym (item_length b k len)) ∙ sym e in
    let is = items_at m (behind_first b) in
    let begins : b ≡ item_bytes (item_at b) ++ behind_first b = sym (take-append-drop k b) ∙ (λ d. len.1 d ++ drop (item_length b k len d) b) in
    (λ d. are_items_at (sym (one_less m) d) (sym left d))
    ∙ both_ways (are_items_at m (behind_first b)) (are_items_at (suc m) b)
    (λ h. let p = and_parts (same_list (behind_first b) (items_bytes is)) (all_items is) h in
    both_true ((Decides-same_list b (item_bytes (item_at b) ++ items_bytes is)).1 (begins ∙ ap (λ x. item_bytes (item_at b) ++ x) ((Decides-same_list (behind_first b) (items_bytes is)).0 p.0))) (both_true len.2 p.1))
    (λ h. others_there m b (several m b h))

false_where : (t : Bool) → (t ≡ true → ⊥) → false ≡ t
false_where true h = absurd (h refl)
false_where false h = refl

pub counted_none : (n : ℕ) (b : List ℕ) → 1 ≤ n → IsItemLen b None → false ≡ are_items_at n b
counted_none n b some none = false_where (are_items_at n b) (λ h. never_none n b some h none)

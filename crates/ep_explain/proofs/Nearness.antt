-- Lists of which one is nearly the other.
use Rattle.std.proofs.Common.{◌≡◌, ◌≤◌, ◌<◌, ◌+◌, ◌-◌, ◌⊎◌, ◌∙◌, inl, inr, ℕ, Bool, true, false, cond}
use Rattle.std.proofs.Common.{List, [], ◌∷◌, ◌++◌, length, take, drop, map, append_assoc, length-append}
use Rattle.std.proofs.Common.{refl, sym, ap, subst, arith}
use Rattle.std.proofs.lemmas.List.{drop-map, length-map}
use Rattle.std.proofs.lemmas.List.Edits.{split_between, length-between}
use Rattle.std.proofs.lemmas.List.Sums.{common_prefix_len-le}
use Rattle.std.proofs.Math.Seq.{drop-append-add}
use Rattle.std.specs.Prelude.{nat_eq, max, codes, IsTrue, ◌↔◌}
use Rattle.std.specs.Char.{eq_ignore_ascii_case, to_ascii_lowercase}
use Rattle.std.specs.List.{common_prefix_len, between}
use Rattle.ep_explain.specs.Guess.{IsNear, IsNearlyReplicas, end_of, without_mark}

-- how many bytes are the same from the front on
abbrev same : List ℕ → List ℕ → ℕ
same xs ys = common_prefix_len nat_eq xs ys

-- how many bytes follow the one that may differ
abbrev behind : List ℕ → List ℕ → ℕ
behind xs ys = max (length xs) (length ys) - (same xs ys + 1)

-- those are the same
abbrev EndsAlike : List ℕ → List ℕ → ℕ → Type 0
EndsAlike xs ys count = end_of xs count ≡ end_of ys count

take_same : (xs ys : List ℕ) → take (same xs ys) xs ≡ take (same xs ys) ys
take_same [] ys = grind arith
take_same (x ∷ xs) [] = refl
take_same (x ∷ xs) (y ∷ ys) = go (nat_eq x y) refl (take_same xs ys)
  where
    go :
        (b : Bool) → nat_eq x y ≡ b → take (same xs ys) xs ≡ take (same xs ys) ys →
        take (cond b (1 + same xs ys) 0) (x ∷ xs) ≡ take (cond b (1 + same xs ys) 0) (y ∷ ys)
    go false is rest = refl
    go true is rest = let head : x ≡ y = grind (arith, is) in grind (arith, rest, head)

same_front : (front xs ys : List ℕ) → length front ≤ same (front ++ xs) (front ++ ys)
same_front [] xs ys = omega arith
same_front (f ∷ fs) xs ys = let rest = same_front fs xs ys in grind (arith, rest)

-- One is nearly the other where the ends behind the byte that may differ are the same.

module _ (xs front x back : List ℕ) (is : xs ≡ front ++ (x ++ back)) where
  length_of : length xs ≡ length front + (length x + length back)
  length_of =
      let parts = ap (λ (n : ℕ). length front + n) (length-append x back) in
      ap (λ (l : List ℕ). length l) is ∙ length-append front (x ++ back) ∙ parts

  end_as : (count : ℕ) → count ≤ length back → end_of xs count ≡ end_of back count
  end_as count fits =
      let whole : xs ≡ (front ++ x) ++ back = is ∙ sym (append_assoc front x back) in
      let long : length ((front ++ x) ++ back) ≡ length (front ++ x) + length back = length-append (front ++ x) back in
      let at : length ((front ++ x) ++ back) - count ≡ length (front ++ x) + (length back - count) =
      omega (arith, long) in
      ap (λ (l : List ℕ). end_of l count) whole ∙ ap (λ (n : ℕ). drop n ((front ++ x) ++ back)) at ∙
      drop-append-add (front ++ x) back (length back - count)

near_only : (xs ys : List ℕ) → IsNear xs ys → EndsAlike xs ys (behind xs ys)
near_only xs ys (front, x, y, back, is, other, few, little) =
    let one : length xs ≡ length front + (length x + length back) = length_of xs front x back is in
    let two : length ys ≡ length front + (length y + length back) = length_of ys front y back other in
    let both = same_front front (x ++ back) (y ++ back) in
    let half = subst (λ (l : List ℕ). length front ≤ same (front ++ (x ++ back)) l) (sym other) both in
    let reach = subst (λ (l : List ℕ). length front ≤ same l ys) (sym is) half in
    let fits : behind xs ys ≤ length back = omega (arith, one, two, reach, few, little) in
    end_as xs front x back is (behind xs ys) fits ∙ sym (end_as ys front y back other (behind xs ys) fits)

near :
    (xs ys : List ℕ) → length xs ≤ length ys + 1 → length ys ≤ length xs + 1 → EndsAlike xs ys (behind xs ys) →
    IsNear xs ys
near xs ys one other ends =
    let n : ℕ = same xs ys in
    let i : ℕ = length xs - behind xs ys in
    let j : ℕ = length ys - behind xs ys in
    let least = common_prefix_len-le nat_eq xs ys in
    let above : n ≤ i = omega (arith, least.0, least.1, one, other) in
    let over : n ≤ j = omega (arith, least.0, least.1, one, other) in
    let x : List ℕ = between n i xs in
    let y : List ℕ = between n j ys in
    let few : length x ≤ 1 = omega (arith, length-between xs n i (omega arith), least.0, least.1, one, other) in
    let little : length y ≤ 1 = omega (arith, length-between ys n j (omega arith), least.0, least.1, one, other) in
    let front = ap (λ (l : List ℕ). l ++ (y ++ drop j ys)) (sym (take_same xs ys)) in
    let back = ap (λ (l : List ℕ). take n xs ++ (y ++ l)) (sym ends) in
    let second : ys ≡ take n xs ++ (y ++ drop i xs) = split_between ys n j over ∙ front ∙ back in
    (take n xs, x, y, drop i xs, split_between xs n i above, second, few, little)

-- The test of a word.

abbrev lower : List ℕ → List ℕ
lower xs = map to_ascii_lowercase xs

abbrev wanted : List ℕ
wanted = codes "replicas"

same_lower : (xs ys : List ℕ) → common_prefix_len eq_ignore_ascii_case xs ys ≡ same (lower xs) (lower ys)
same_lower [] ys = refl
same_lower (x ∷ xs) [] = refl
same_lower (x ∷ xs) (y ∷ ys) = ap (λ (k : ℕ). cond (eq_ignore_ascii_case x y) (1 + k) 0) (same_lower xs ys)

end_lower : (xs : List ℕ) (count : ℕ) → lower (end_of xs count) ≡ end_of (lower xs) count
end_lower xs count =
    let long = ap (λ (n : ℕ). drop (n - count) (lower xs)) (sym (length-map xs to_ascii_lowercase)) in
    sym (drop-map to_ascii_lowercase (length xs - count) xs) ∙ long

-- what the end of a word is compared with
pub record IsMeasured (word : List ℕ) (count p : ℕ) : Type 0 where
  pub least : 7 ≤ length word
  pub most : length word ≤ 9
  pub front : p ≡ common_prefix_len eq_ignore_ascii_case word wanted
  pub size : count ≡ max (length word) 8 - (p + 1)

abbrev pub AreAlike : List ℕ → ℕ → Type 0
AreAlike word count = lower (end_of word count) ≡ lower (end_of wanted count)

nearly_so :
    (word : List ℕ) (count p : ℕ) (is_end : Bool) → IsMeasured word count p → IsTrue is_end ↔ AreAlike word count →
    IsTrue is_end ↔ IsNear (lower word) wanted
nearly_so word count p is_end m test =
    let low : List ℕ = lower word in
    let long : length low ≡ length word = length-map word to_ascii_lowercase in
    let as_lower : p ≡ same low wanted = m.front ∙ same_lower word wanted in
    let rest : count ≡ behind low wanted = omega (arith, m.size, as_lower, long) in
    let one = end_lower word count in
    let two : lower (end_of wanted count) ≡ end_of wanted count = end_lower wanted count in
    let shorter : length low ≤ 9 = omega (arith, long, m.most) in
    let longer : 8 ≤ length low + 1 = omega (arith, long, m.least) in
    let alike = λ (t : IsTrue is_end). subst (λ (n : ℕ). EndsAlike low wanted n) rest (sym one ∙ test.0 t ∙ two) in
    let back = λ (h : IsNear low wanted). near_only low wanted h in
    let ends = λ (h : IsNear low wanted). subst (λ (n : ℕ). EndsAlike low wanted n) (sym rest) (back h) in
    (λ t. near low wanted shorter longer (alike t), λ h. test.1 (one ∙ ends h ∙ sym two))

pub nearly :
    (given word : List ℕ) (count p : ℕ) (is_end : Bool) → word ≡ without_mark given → IsMeasured word count p →
    IsTrue is_end ↔ AreAlike word count → IsTrue is_end ↔ IsNearlyReplicas given
nearly given word count p is_end is m test =
    subst (λ (l : List ℕ). IsTrue is_end ↔ IsNear (lower l) wanted) is (nearly_so word count p is_end m test)

-- a word that is far shorter or longer isn't
far_off : (word : List ℕ) → (length word < 7) ⊎ (9 < length word) → ¬ IsNear (lower word) wanted
far_off word far (front, x, y, back, is, other, few, little) =
    let long : length (lower word) ≡ length word = length-map word to_ascii_lowercase in
    let one : length (lower word) ≡ length front + (length x + length back) = length_of (lower word) front x back is in
    let two : 8 ≡ length front + (length y + length back) = length_of wanted front y back other in
    elim far [
      | inl short ↦ absurd (omega (arith, long, one, two, few, little, short))
      | inr much ↦ absurd (omega (arith, long, one, two, few, little, much))
    ]

pub not_near :
    (given word : List ℕ) → word ≡ without_mark given → (length word < 7) ⊎ (9 < length word) →
    IsTrue false ↔ IsNearlyReplicas given
not_near given word is far =
    let same = λ (h : IsNearlyReplicas given). subst (λ (l : List ℕ). IsNear (lower l) wanted) (sym is) h in
    (λ t. absurd (let e : false ≡ true = t in cc), λ h. absurd (far_off word far (same h)))

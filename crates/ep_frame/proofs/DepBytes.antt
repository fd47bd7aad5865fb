-- Parts of the bytes of dependencies.
use Rattle.std.proofs.Common.{◌≡◌, ℕ, ◌+◌, ◌*◌, ◌-◌, ◌≤◌, ◌<◌, ◌↔◌, List, [], ◌∷◌, ◌++◌, length, take, drop, refl, sym, ap, subst, ◌∙◌, inl, inr, arith}
use Rattle.std.proofs.lemmas.List.{take-append-drop, length-take, length-drop}
use Rattle.ep_base.specs.Instances.{instance_of}
use Rattle.ep_base.specs.Deps.{IsRising, AreInstances}
use Rattle.ep_base.specs.Places.{Has}
use Rattle.ep_base.proofs.Places.{Has-empty, Has-cons_cases, Has-head, Has-tail}
use Rattle.ep_base.proofs.Rising.{rising_front}
use Rattle.ep_frame.specs.Fields.{deps_in}
use Rattle.ep_frame.specs.DepBytes.{AreDepBytes}
use Rattle.ep_frame.proofs.Headers.{length-deps_in}
use Rattle.ep_rules.proofs.Places.{has_left, has_right, has_split}

pub deps_in-append : (n : ℕ) (a b : List ℕ) → length a ≡ 3 * n → deps_in (a ++ b) ≡ deps_in a ++ deps_in b
deps_in-append n [] b len = refl
deps_in-append n (r ∷ []) b len = absurd (omega (arith, len))
deps_in-append n (r ∷ x ∷ []) b len = absurd (omega (arith, len))
deps_in-append n (r ∷ x ∷ y ∷ a) b len = ap (λ (is : List ℕ). instance_of r (x * 256 + y) ∷ is) (deps_in-append (n - 1) a b (omega (arith, len)))

rising_back : (xs ys : List ℕ) → IsRising (xs ++ ys) → IsRising ys
rising_back [] ys h = h
rising_back (x ∷ xs) ys h = rising_back xs ys h.1

instances_front : (xs ys : List ℕ) → AreInstances (xs ++ ys) → AreInstances xs
instances_front [] ys h = tt
instances_front (x ∷ xs) ys h = (h.0, instances_front xs ys h.1)

instances_back : (xs ys : List ℕ) → AreInstances (xs ++ ys) → AreInstances ys
instances_back [] ys h = h
instances_back (x ∷ xs) ys h = instances_back xs ys h.1

-- the bytes of the first n dependencies, and those of the others
pub record Split (b : List ℕ) (n : ℕ) : Type 0 where
  pub deps : deps_in b ≡ deps_in (take (3 * n) b) ++ deps_in (drop (3 * n) b)
  pub count : length (deps_in (take (3 * n) b)) ≡ n
  pub first : AreDepBytes (take (3 * n) b)
  pub second : AreDepBytes (drop (3 * n) b)

pub split : (b : List ℕ) (n : ℕ) → AreDepBytes b → n ≤ length (deps_in b) → Split b n
split b n h le =
    let front = take (3 * n) b in let back = drop (3 * n) b in
    let lf : length front ≡ 3 * n = omega (arith, length-take (3 * n) b, h.whole, le) in
    let lb : length back ≡ 3 * (length (deps_in b) - n) = omega (arith, length-drop (3 * n) b, h.whole, le) in
    let cf : length (deps_in front) ≡ n = length-deps_in front n lf in
    let cb : length (deps_in back) ≡ length (deps_in b) - n = length-deps_in back (length (deps_in b) - n) lb in
    let is : deps_in b ≡ deps_in front ++ deps_in back = ap deps_in (sym (take-append-drop (3 * n) b)) ∙ deps_in-append n front back lf in
    let rising : IsRising (deps_in front ++ deps_in back) = subst IsRising is h.deps.rising in
    let instances : AreInstances (deps_in front ++ deps_in back) = subst AreInstances is h.deps.instances in
    record {
      deps = is;
      count = cf;
      first = record { whole = omega (arith, lf, cf); deps = record { rising = rising_front (deps_in front) (deps_in back) rising; instances = instances_front (deps_in front) (deps_in back) instances } };
      second = record { whole = omega (arith, lb, cb); deps = record { rising = rising_back (deps_in front) (deps_in back) rising; instances = instances_back (deps_in front) (deps_in back) instances } };
    }

-- ---- what a rising list has

-- what comes after is greater
below_all : (x : ℕ) (xs : List ℕ) (d : ℕ) → IsRising (x ∷ xs) → Has xs d → x < d
below_all x [] d h k = absurd (Has-empty d k)
below_all x (y ∷ xs) d h k = elim (Has-cons_cases y xs d k) [ inl e ↦ omega (arith, h.0, e) | inr t ↦ (let lt = below_all y xs d h.1 t in omega (arith, h.0, lt)) ]

above_all : (xs : List ℕ) (y : ℕ) (ys : List ℕ) (d : ℕ) → IsRising (xs ++ (y ∷ ys)) → Has xs d → d < y
above_all [] y ys d h k = absurd (Has-empty d k)
above_all (x ∷ xs) y ys d h k =
    elim (Has-cons_cases x xs d k) [
      | inl e ↦ (let lt = below_all x (xs ++ (y ∷ ys)) y h (has_right xs (y ∷ ys) y (Has-head y ys y refl)) in omega (arith, e, lt))
      | inr t ↦ above_all xs y ys d h.1 t
    ]

-- the half that cannot have it is left out

pub in_high : (xs : List ℕ) (y : ℕ) (ys : List ℕ) (d : ℕ) → IsRising (xs ++ (y ∷ ys)) → y < d → Has ys d ↔ Has (xs ++ (y ∷ ys)) d
in_high xs y ys d h lt = (
  λ k. has_right xs (y ∷ ys) d (Has-tail y ys d k),
  λ k. elim (has_split xs (y ∷ ys) d k) [
    | inl f ↦ (let up = above_all xs y ys d h f in absurd (omega (arith, up, lt)))
    | inr b ↦ elim (Has-cons_cases y ys d b) [ inl e ↦ absurd (omega (arith, e, lt)) | inr t ↦ t ]
  ],
)

pub in_low : (xs : List ℕ) (y : ℕ) (ys : List ℕ) (d : ℕ) → IsRising (xs ++ (y ∷ ys)) → d < y → Has xs d ↔ Has (xs ++ (y ∷ ys)) d
in_low xs y ys d h lt = (
  λ k. has_left xs (y ∷ ys) d k,
  λ k. elim (has_split xs (y ∷ ys) d k) [
    | inl f ↦ f
    | inr b ↦ elim (Has-cons_cases y ys d b) [ inl e ↦ absurd (omega (arith, e, lt)) | inr t ↦ (let up = below_all y ys d (rising_back xs (y ∷ ys) h) t in absurd (omega (arith, up, lt))) ]
  ],
)

pub in_middle : (xs : List ℕ) (y : ℕ) (ys : List ℕ) (d : ℕ) → y ≡ d → Has (xs ++ (y ∷ ys)) d
in_middle xs y ys d e = has_right xs (y ∷ ys) d (Has-head y ys d e)

-- the same of the bytes of three parts

pub record Parted (b low high : List ℕ) (y d : ℕ) : Type 0 where
  pub is : deps_in b ≡ deps_in low ++ (y ∷ deps_in high)
  pub bytes : AreDepBytes b

pub parted : (b low second high : List ℕ) (y d : ℕ) → AreDepBytes b → deps_in b ≡ deps_in low ++ deps_in second → deps_in second ≡ y ∷ deps_in high → Parted b low high y d
parted b low second high y d h e f = record { is = e ∙ ap (λ (is : List ℕ). deps_in low ++ is) f; bytes = h }

rising_parted : (b low high : List ℕ) (y d : ℕ) → Parted b low high y d → IsRising (deps_in low ++ (y ∷ deps_in high))
rising_parted b low high y d p = subst IsRising p.is p.bytes.deps.rising

pub high_has : (b low high : List ℕ) (y d : ℕ) → Parted b low high y d → y < d → Has (deps_in high) d ↔ Has (deps_in b) d
high_has b low high y d p lt = subst (λ (is : List ℕ). Has (deps_in high) d ↔ Has is d) (sym p.is) (in_high (deps_in low) y (deps_in high) d (rising_parted b low high y d p) lt)

pub low_has : (b low high : List ℕ) (y d : ℕ) → Parted b low high y d → d < y → Has (deps_in low) d ↔ Has (deps_in b) d
low_has b low high y d p lt = subst (λ (is : List ℕ). Has (deps_in low) d ↔ Has is d) (sym p.is) (in_low (deps_in low) y (deps_in high) d (rising_parted b low high y d p) lt)

pub middle_has : (b low high : List ℕ) (y d : ℕ) → Parted b low high y d → y ≡ d → Has (deps_in b) d
middle_has b low high y d p e = subst (λ (is : List ℕ). Has is d) (sym p.is) (in_middle (deps_in low) y (deps_in high) d e)

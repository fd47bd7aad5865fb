-- Dependencies in order, from left to right.
use Rattle.std.proofs.Common.{◌≡◌, ℕ, ◌-◌, ◌+◌, ◌*◌, ◌≤◌, ◌<◌, refl, sym, ap, ◌∙◌, slice_index_or, length, take, drop, arith, List, [], ◌∷◌, ◌++◌, Bool, true, Option, Some, None}
use Rattle.std.specs.Prelude.{◌&&◌}
use Rattle.std.proofs.lemmas.Bool.{and_parts}
use Rattle.ep_base.specs.Instances.{instance_of}
use Rattle.ep_base.specs.Deps.{IsRising, IsDeps}
use Rattle.ep_base.proofs.Rising.{rising_to}
use Rattle.ep_frame.specs.Fields.{deps_in}
use Rattle.ep_frame.specs.Faults.{are_deps, is_instance, precedes_first}
use Rattle.ep_frame.proofs.Found.{rising_found}

-- they are in order, and above what was read last
abbrev pub follow : Option ℕ → List ℕ → Bool
follow None is = are_deps is
follow (Some i) is = precedes_first i is && are_deps is

-- what `&b[i..i + n]` is
pub part_of : (i n : ℕ) (b : List ℕ) → take (i + n - i) (drop i b) ≡ take n (drop i b)
part_of i n b = let e : i + n - i ≡ n = omega arith in ap (λ k. take k (drop i b)) e

-- a dependency in the middle is an instance
pub is_dep : (xs : List ℕ) (i : ℕ) (ys : List ℕ) → are_deps (xs ++ (i ∷ ys)) ≡ true → is_instance i ≡ true
is_dep [] i ys e = let p = and_parts (is_instance i && precedes_first i ys) (are_deps ys) e in let q = and_parts (is_instance i) (precedes_first i ys) p.0 in q.0
is_dep (x ∷ xs) i ys e = let p = and_parts (is_instance x && precedes_first x (xs ++ (i ∷ ys))) (are_deps (xs ++ (i ∷ ys))) e in is_dep xs i ys p.1

-- and above those before it
pub is_above : (xs : List ℕ) (i : ℕ) (ys : List ℕ) → are_deps (xs ++ (i ∷ ys)) ≡ true → IsRising (xs ++ (i ∷ []))
is_above xs i ys e = rising_to xs i ys (rising_found (xs ++ (i ∷ ys)) e).0

-- the first dependency, by its three bytes
pub first_dep : (bs : List ℕ) → 3 ≤ length bs → deps_in bs ≡ instance_of (slice_index_or bs 0 0) (slice_index_or bs 1 0 * 256 + slice_index_or bs 2 0) ∷ deps_in (drop 3 bs)
first_dep [] h = absurd (omega (arith, h))
first_dep (r ∷ []) h = absurd (omega (arith, h))
first_dep (r ∷ a ∷ []) h = absurd (omega (arith, h))
first_dep (r ∷ a ∷ b ∷ rest) h = refl

abbrev pub dep_at_front : List ℕ → ℕ
dep_at_front bs = instance_of (slice_index_or bs 0 0) (slice_index_or bs 1 0 * 256 + slice_index_or bs 2 0)

-- what is known of the next dependency, where those before it and it are in order
pub next_is_dep : (xs bs all : List ℕ) → xs ++ deps_in bs ≡ deps_in all → are_deps (deps_in all) ≡ true → 3 ≤ length bs → is_instance (dep_at_front bs) ≡ true
next_is_dep xs bs all e d h = is_dep xs (dep_at_front bs) (deps_in (drop 3 bs)) (ap (λ (ys : List ℕ). are_deps (xs ++ ys)) (sym (first_dep bs h)) ∙ ap are_deps e ∙ d)

-- what is too short has no dependency
short_deps : (bs : List ℕ) → length bs < 3 → deps_in bs ≡ []
short_deps [] h = refl
short_deps (r ∷ []) h = refl
short_deps (r ∷ a ∷ []) h = refl
short_deps (r ∷ a ∷ b ∷ rest) h = absurd (omega (arith, h))

with_none : (xs : List ℕ) → xs ≡ xs ++ []
with_none [] = refl
with_none (x ∷ xs) = ap (λ ys. x ∷ ys) (with_none xs)

-- those that were read are all, where no more bytes are left
pub are_all : (xs bs all : List ℕ) → xs ++ deps_in bs ≡ deps_in all → are_deps (deps_in all) ≡ true → length bs < 3 → IsDeps xs
are_all xs bs all e d h =
    let same : xs ≡ deps_in all = with_none xs ∙ ap (λ ys. xs ++ ys) (sym (short_deps bs h)) ∙ e in
    let r = rising_found xs (ap are_deps same ∙ d) in
    record { rising = r.0; instances = r.1 }

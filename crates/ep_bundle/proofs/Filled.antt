-- Filling a buffer part by part.
use Rattle.std.proofs.Common.{◌≡◌, ℕ, ◌+◌, ◌-◌, ◌≤◌, ◌<◌, false, List, [], ◌∷◌, ◌++◌, length, take, drop, slice_range, Option, Some, None, refl, sym, ap, ◌∙◌, subst, le_refl, drop_at, length-take-le, append_assoc, append-nil, length-append, arith}
use Rattle.std.proofs.lemmas.Slice.{take-put_mid_below}
use Rattle.std.specs.Io.KnownBytes.{Consumes, IsAtEnd}
use borrow.Rule.Slice.PartMut.{put_mid, post_of}
use lib.Seq.{take-add, take-append-le}
use Rattle.ep_bundle.specs.Filling.{Begun, Fills}

-- what a pull gave comes after
pub more : (zs bs cs : List ℕ) (left left' : Option (List ℕ)) → Begun zs bs left → Consumes left left' cs → Begun zs (bs ++ cs) left'
more zs bs cs left left' h k = go left' (subst (λ l. Consumes l left' cs) h.1 k)
  where
    go : (l : Option (List ℕ)) → Consumes (Some h.0) l cs → Begun zs (bs ++ cs) l
    go None k = absurd k
    go (Some ys) k = (ys, refl, h.2 ∙ ap (λ l. bs ++ l) k ∙ sym (append_assoc bs cs ys))

take_split : (a b : ℕ) (old new : List ℕ) → a ≤ b → take a new ≡ take a old → take a old ++ slice_range new a b ≡ take b new
take_split a b old new h front =
    let same : a + (b - a) ≡ b = omega arith in
    ap (λ l. l ++ slice_range new a b) (sym front) ∙ sym (take-add a (b - a) new) ∙ ap (λ n. take n new) same

slice_range-put_mid : (a k n : ℕ) (xs ys : List ℕ) → a ≤ length xs → n ≤ length ys → slice_range (put_mid a k xs ys) a (a + n) ≡ take n ys
slice_range-put_mid a k n xs ys within fits =
    let same : (a + n) - a ≡ n = omega arith in
    let after = post_of a k xs in
    ap (take ((a + n) - a)) (drop_at (take a xs) (ys ++ after) a (length-take-le a xs within)) ∙ ap (λ m. take m (ys ++ after)) same ∙ take-append-le n ys after fits

-- the buffer's front after one part more
pub front : (a k n : ℕ) (xs ys : List ℕ) → a ≤ length xs → n ≤ length ys → take a xs ++ take n ys ≡ take (a + n) (put_mid a k xs ys)
front a k n xs ys within fits =
    ap (λ l. take a xs ++ l) (sym (slice_range-put_mid a k n xs ys within fits))
    ∙ take_split a (a + n) xs (put_mid a k xs ys) (omega arith) (take-put_mid_below _ _ _ _ _ (le_refl _) within)

-- the source is at its end before
pub short : (zs buf : List ℕ) (at n : ℕ) (left left' : Option (List ℕ)) (cs : List ℕ) → at < length buf → Begun zs (take at buf) left → IsAtEnd left → Consumes left left' cs → Fills false zs buf left'
short zs buf at n left left' cs h c end k = go left' (subst (λ l. Consumes l left' cs) c.1 k)
  where
    none : c.0 ≡ []
    none = subst (λ l. IsAtEnd l) c.1 end

    len : length zs < length buf
    len = let e : length zs ≡ length (take at buf) = ap length (c.2 ∙ ap (λ l. take at buf ++ l) none ∙ append-nil (take at buf)) in
        let k : length (take at buf) ≡ at = length-take-le at buf (omega arith) in omega arith

    go : (l : Option (List ℕ)) → Consumes (Some c.0) l cs → (length zs < length buf) × (l ≡ Some [])
    go None k = absurd k
    go (Some ys) k = (len, ap Some (nil cs ys (sym none ∙ k)))
      where
        nil : (cs ys : List ℕ) → [] ≡ cs ++ ys → ys ≡ []
        nil [] ys e = sym e
        nil (x ∷ cs) ys e = absurd (cc)

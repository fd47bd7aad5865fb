-- Places in lists.
use Rattle.std.specs.List.{flat_map, slice_get}
use Rattle.std.specs.Io.KnownBytes.{Appends}
use Rattle.std.proofs.KnownBytes.{Appends-trans}
use Rattle.std.proofs.lemmas.Grind.{flat_map-append}
use Rattle.std.proofs.lemmas.List.{get_or-drop, length-drop}
use Rattle.std.proofs.lemmas.Option.{slice_get_cases}
use Rattle.std.proofs.Common.{◌≡◌, ℕ, zero, suc, ◌+◌, ◌-◌, ◌≤◌, ◌<◌, List, [], ◌∷◌, ◌++◌, length, take, drop, get_or, append-nil, Option, Some, inl, inr, sym, ap, ◌∙◌, subst, arith}

pub take_more : {A : Type 0} (k : ℕ) (xs : List A) (x : A) → k < length xs → x ≡ get_or xs k x → take (k + 1) xs ≡ take k xs ++ x ∷ []
take_more {A = A} k xs x lt is = ap (λ n. take n xs) (let e : k + 1 ≡ suc k = omega arith in e) ∙ go k xs lt is
  where
    go : (k : ℕ) (xs : List A) → k < length xs → x ≡ get_or xs k x → take (suc k) xs ≡ take k xs ++ x ∷ []
    go k [] lt is = absurd (omega arith)
    go zero (y ∷ ys) lt is = ap (λ z. z ∷ []) (sym is)
    go (suc k) (y ∷ ys) lt is = ap (λ zs. y ∷ zs) (go k ys (omega arith) is)

-- one more of the bytes of a part
pub more : {A : Type 0} (f : A → List ℕ) (first k : ℕ) (es : List A) (old mid new : Option (List ℕ)) → first + k < length es → Appends old mid (flat_map f (take k (drop first es))) → ((e : A) → slice_get es (first + k) ≡ Some e → Appends mid new (f e))
    → Appends old new (flat_map f (take (k + 1) (drop first es)))
more {A = A} f first k es old mid new lt p next = elim ((slice_get_cases es (first + k)).1) [
  | inl c ↦
      let is : c.0 ≡ get_or (drop first es) k c.0 = sym c.3 ∙ sym (get_or-drop first es k c.0) in
      let long : length (drop first es) ≡ length es - first = length-drop first es in
      let within : k < length (drop first es) = omega arith in
      let t : take (k + 1) (drop first es) ≡ take k (drop first es) ++ c.0 ∷ [] = take_more k (drop first es) c.0 within is in
      let b : flat_map f (take (k + 1) (drop first es)) ≡ flat_map f (take k (drop first es)) ++ f c.0 =
      ap (λ (xs : List A). flat_map f xs) t ∙ flat_map-append f (take k (drop first es)) (c.0 ∷ []) ∙ ap (λ (ys : List ℕ). flat_map f (take k (drop first es)) ++ ys) (append-nil (f c.0)) in
      subst (λ (bs : List ℕ). Appends old new bs) (sym b) (Appends-trans old mid new (flat_map f (take k (drop first es))) (f c.0) p (next c.0 c.2))
  | inr c ↦ absurd (let past : length es ≤ first + k = c.0 in omega arith)
]

-- the same of a whole list
pub next : {A : Type 0} (f : A → List ℕ) (k : ℕ) (xs : List A) (x : A) (old mid new : Option (List ℕ)) → k < length xs → x ≡ get_or xs k x → Appends old mid (flat_map f (take k xs)) → Appends mid new (f x)
    → Appends old new (flat_map f (take (k + 1) xs))
next {A = A} f k xs x old mid new lt is p one =
    let t : take (k + 1) xs ≡ take k xs ++ x ∷ [] = take_more k xs x lt is in
    let b : flat_map f (take (k + 1) xs) ≡ flat_map f (take k xs) ++ f x =
    ap (λ (ys : List A). flat_map f ys) t ∙ flat_map-append f (take k xs) (x ∷ []) ∙ ap (λ (ys : List ℕ). flat_map f (take k xs) ++ ys) (append-nil (f x)) in
    subst (λ (bs : List ℕ). Appends old new bs) (sym b) (Appends-trans old mid new (flat_map f (take k xs)) (f x) p one)

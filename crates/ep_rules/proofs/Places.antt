-- Places in lists of instances.
use Rattle.std.proofs.Common.{◌≡◌, ℕ, zero, suc, ◌+◌, ◌<◌, ◌≤◌, ◌⊎◌, inl, inr, List, [], ◌∷◌, ◌++◌, length, take, min, Bool, true, false, cond, eqb, refl, sym, ap, subst, ◌∙◌, arith}
use Rattle.std.proofs.lemmas.Bool.{eqb-true, eq-eqb, cases_lt, cases_order, false≢true}
use Rattle.std.proofs.lemmas.List.{length-append, length-take}
use Rattle.std.specs.List.{filter}
use Rattle.ep_base.specs.Places.{place, Has}

pub same_refl : (i : ℕ) → eqb i i ≡ true
same_refl i = eq-eqb i i refl

-- the place in a list that begins with x
pub place_cons : (x i : ℕ) (xs : List ℕ) → ((x ≡ i) × (place (x ∷ xs) i ≡ 0)) ⊎ (place (x ∷ xs) i ≡ suc (place xs i))
place_cons x i xs = go (eqb x i) refl
  where
    go : (b : Bool) → eqb x i ≡ b → ((x ≡ i) × (cond b 0 (suc (place xs i)) ≡ 0)) ⊎ (cond b 0 (suc (place xs i)) ≡ suc (place xs i))
    go true e = inl (eqb-true x i e, refl)
    go false e = inr refl

pub place_head : (x : ℕ) (xs : List ℕ) → place (x ∷ xs) x ≡ 0
place_head x xs = ap (λ b. cond b 0 (suc (place xs x))) (same_refl x)

pub place_le : (xs : List ℕ) (i : ℕ) → place xs i ≤ length xs
place_le [] i = omega arith
place_le (x ∷ xs) i = let r = place_le xs i in let c = place_cons x i xs in omega arith

pub has_or : (xs : List ℕ) (i : ℕ) → Has xs i ⊎ (Has xs i → ⊥)
has_or xs i = elim (cases_lt (place xs i) (length xs)) [ inl h ↦ inl h | inr h ↦ inr (λ k. omega arith) ]

pub not_has : (xs : List ℕ) (i : ℕ) → (Has xs i → ⊥) → place xs i ≡ length xs
not_has xs i h = let l = place_le xs i in elim (cases_lt (place xs i) (length xs)) [ inl k ↦ absurd (h k) | inr k ↦ omega arith ]

-- two instances at one place of the list are one
pub place_inj : (xs : List ℕ) (i j : ℕ) → Has xs i → place xs i ≡ place xs j → i ≡ j
place_inj [] i j h e = absurd (omega arith)
place_inj (x ∷ xs) i j h e = go (place_inj xs i j) (place_cons x i xs) (place_cons x j xs)
  where
    go : (place xs i < length xs → place xs i ≡ place xs j → i ≡ j) → ((x ≡ i) × (place (x ∷ xs) i ≡ 0)) ⊎ (place (x ∷ xs) i ≡ suc (place xs i)) → ((x ≡ j) × (place (x ∷ xs) j ≡ 0)) ⊎ (place (x ∷ xs) j ≡ suc (place xs j)) → i ≡ j
    go rec (inl p) (inl q) = sym p.0 ∙ q.0
    go rec (inl p) (inr q) = absurd (omega arith)
    go rec (inr p) (inl q) = absurd (omega arith)
    go rec (inr p) (inr q) = rec (omega arith) (omega arith)

-- in the first of two lists
pub place-append_in : (xs ys : List ℕ) (i : ℕ) → Has xs i → place (xs ++ ys) i ≡ place xs i
place-append_in [] ys i h = absurd (omega arith)
place-append_in (x ∷ xs) ys i h = go (eqb x i) h (place-append_in xs ys i)
  where
    go : (b : Bool) → cond b 0 (suc (place xs i)) < suc (length xs) → (Has xs i → place (xs ++ ys) i ≡ place xs i) → cond b 0 (suc (place (xs ++ ys) i)) ≡ cond b 0 (suc (place xs i))
    go true h r = refl
    go false h r = ap suc (r (omega arith))

-- not in the first
pub place-append_out : (xs ys : List ℕ) (i : ℕ) → (Has xs i → ⊥) → place (xs ++ ys) i ≡ length xs + place ys i
place-append_out [] ys i h = omega arith
place-append_out (x ∷ xs) ys i h = go (eqb x i) h (place-append_out xs ys i)
  where
    go : (b : Bool) → (cond b 0 (suc (place xs i)) < suc (length xs) → ⊥) → ((Has xs i → ⊥) → place (xs ++ ys) i ≡ length xs + place ys i) → cond b 0 (suc (place (xs ++ ys) i)) ≡ suc (length xs) + place ys i
    go true h r = absurd (h (omega arith))
    go false h r = let e = r (λ k. h (omega arith)) in omega arith

pub has_left : (xs ys : List ℕ) (i : ℕ) → Has xs i → Has (xs ++ ys) i
has_left xs ys i h = omega (arith, place-append_in xs ys i h, length-append xs ys)

pub has_right : (xs ys : List ℕ) (i : ℕ) → Has ys i → Has (xs ++ ys) i
has_right xs ys i h = elim (has_or xs i) [ inl k ↦ has_left xs ys i k | inr k ↦ omega (arith, place-append_out xs ys i k, length-append xs ys) ]

pub has_split : (xs ys : List ℕ) (i : ℕ) → Has (xs ++ ys) i → Has xs i ⊎ Has ys i
has_split xs ys i h = elim (has_or xs i) [ inl k ↦ inl k | inr k ↦ inr (omega (arith, place-append_out xs ys i k, length-append xs ys)) ]

pub has_cons : (x i : ℕ) (xs : List ℕ) → Has (x ∷ xs) i → (x ≡ i) ⊎ Has xs i
has_cons x i xs h = elim (place_cons x i xs) [ inl p ↦ inl p.0 | inr p ↦ inr (omega arith) ]

pub has_tail : (x i : ℕ) (xs : List ℕ) → Has xs i → Has (x ∷ xs) i
has_tail x i xs h = let c = place_cons x i xs in omega arith

-- the place in a front of the list
pub place_take : (n : ℕ) (xs : List ℕ) (i : ℕ) → place (take n xs) i ≡ min n (place xs i)
place_take zero xs i = omega arith
place_take (suc n) [] i = omega arith
place_take (suc n) (x ∷ xs) i = go (eqb x i) (place_take n xs i)
  where
    go : (b : Bool) → place (take n xs) i ≡ min n (place xs i) → cond b 0 (suc (place (take n xs) i)) ≡ min (suc n) (cond b 0 (suc (place xs i)))
    go true r = omega arith
    go false r = omega arith

-- each instance stands once
abbrev pub Once : List ℕ → Type 0
Once [] = Unit {0}
Once (x ∷ xs) = (¬ Has xs x) × Once xs

pub once-append : (xs ys : List ℕ) → Once xs → Once ys → ((i : ℕ) → Has xs i → ¬ Has ys i) → Once (xs ++ ys)
once-append [] ys ox oy apart = oy
once-append (x ∷ xs) ys ox oy apart = (
  λ h. elim (has_split xs ys x h) [ inl k ↦ ox.0 k | inr k ↦ apart x (let e = place_head x xs in omega arith) k ],
  once-append xs ys ox.1 oy (λ i h. apart i (has_tail x i xs h)),
)

pub has_filter : (p : ℕ → Bool) (xs : List ℕ) (i : ℕ) → Has (filter p xs) i → Has xs i × (p i ≡ true)
has_filter p [] i h = absurd (omega arith)
has_filter p (x ∷ xs) i h = go (p x) refl h (has_filter p xs i)
  where
    go : (b : Bool) → p x ≡ b → Has (cond b (x ∷ filter p xs) (filter p xs)) i → (Has (filter p xs) i → Has xs i × (p i ≡ true)) → Has (x ∷ xs) i × (p i ≡ true)
    go true e h r = elim (has_cons x i (filter p xs) h) [ inl k ↦ (subst (λ y. Has (x ∷ xs) y) k (let e = place_head x xs in omega arith), subst (λ y. p y ≡ true) k e) | inr k ↦ (has_tail x i xs (r k).0, (r k).1) ]
    go false e h r = (has_tail x i xs (r h).0, (r h).1)

pub once_filter : (p : ℕ → Bool) (xs : List ℕ) → Once xs → Once (filter p xs)
once_filter p [] o = o
once_filter p (x ∷ xs) o = go (p x) (once_filter p xs o.1)
  where
    go : (b : Bool) → Once (filter p xs) → Once (cond b (x ∷ filter p xs) (filter p xs))
    go true r = (λ h. o.0 (has_filter p xs x h).0, r)
    go false r = r

pub once_take : (n : ℕ) (xs : List ℕ) → Once xs → Once (take n xs)
once_take zero xs o = tt
once_take (suc n) [] o = tt
once_take (suc n) (x ∷ xs) o = (λ h. o.0 (omega (arith, place_take n xs x, length-take n xs)), once_take n xs o.1)

-- a filter keeps the order of what it keeps
pub filter_forth : (p : ℕ → Bool) (xs : List ℕ) (i j : ℕ) → p i ≡ true → p j ≡ true → place xs i < place xs j → place (filter p xs) i < place (filter p xs) j
filter_forth p [] i j pi pj lt = absurd (omega arith)
filter_forth p (x ∷ xs) i j pi pj lt = go (eqb x i) (eqb x j) (p x) refl refl refl lt (filter_forth p xs i j pi pj)
  where
    go : (a b t : Bool) → eqb x i ≡ a → eqb x j ≡ b → p x ≡ t → cond a 0 (suc (place xs i)) < cond b 0 (suc (place xs j)) → (place xs i < place xs j → place (filter p xs) i < place (filter p xs) j) → place (cond t (x ∷ filter p xs) (filter p xs)) i < place (cond t (x ∷ filter p xs) (filter p xs)) j
    go a true t ea eb et l r = absurd (omega arith)
    go true false true ea eb et l r = rw (ea, eb) (omega arith)
    go true false false ea eb et l r = absurd (false≢true (sym et ∙ ap p (eqb-true x i ea) ∙ pi))
    go false false true ea eb et l r = rw (ea, eb) (let s = r (omega arith) in omega arith)
    go false false false ea eb et l r = r (omega arith)

pub filter_back : (p : ℕ → Bool) (xs : List ℕ) (i j : ℕ) → p i ≡ true → p j ≡ true → Has xs i → place (filter p xs) i < place (filter p xs) j → place xs i < place xs j
filter_back p xs i j pi pj h lt = elim (cases_order (place xs i) (place xs j)) [
  | inl e ↦ absurd (omega (arith, ap (λ k. place (filter p xs) k) (place_inj xs i j h e)))
  | inr (inl l) ↦ l
  | inr (inr l) ↦ absurd (omega (arith, filter_forth p xs j i pj pi l))
]

pub filter_has : (p : ℕ → Bool) (xs : List ℕ) (i : ℕ) → p i ≡ true → Has xs i → Has (filter p xs) i
filter_has p [] i pi h = absurd (omega arith)
filter_has p (x ∷ xs) i pi h = go (p x) refl (filter_has p xs i pi)
  where
    go : (t : Bool) → p x ≡ t → (Has xs i → Has (filter p xs) i) → Has (cond t (x ∷ filter p xs) (filter p xs)) i
    go true et r = elim (has_cons x i xs h) [ inl k ↦ subst (λ y. Has (x ∷ filter p xs) y) k (let e = place_head x (filter p xs) in omega arith) | inr k ↦ has_tail x i (filter p xs) (r k) ]
    go false et r = elim (has_cons x i xs h) [ inl k ↦ absurd (false≢true (sym et ∙ ap p k ∙ pi)) | inr k ↦ r k ]

-- a filter that no element passes
pub filter_none : (p : ℕ → Bool) (xs : List ℕ) → ((i : ℕ) → Has xs i → p i ≡ false) → filter p xs ≡ []
filter_none p [] h = refl
filter_none p (x ∷ xs) h =
    ap (λ b. cond b (x ∷ filter p xs) (filter p xs)) (h x (let e = place_head x xs in omega arith)) ∙ filter_none p xs (λ i k. h i (has_tail x i xs k))

-- a filter that every element passes
pub filter_all : (p : ℕ → Bool) (xs : List ℕ) → ((i : ℕ) → Has xs i → p i ≡ true) → filter p xs ≡ xs
filter_all p [] h = refl
filter_all p (x ∷ xs) h =
    ap (λ b. cond b (x ∷ filter p xs) (filter p xs)) (h x (let e = place_head x xs in omega arith)) ∙ ap (λ ys. x ∷ ys) (filter_all p xs (λ i k. h i (has_tail x i xs k)))

pub has_single : (d j : ℕ) → Has (d ∷ []) j → d ≡ j
has_single d j h = elim (has_cons d j [] h) [ inl e ↦ e | inr k ↦ absurd (omega arith) ]

-- Numbered journals have a schedule.
use Rattle.std.proofs.Common.{◌≡◌, ℕ, zero, suc, ◌<◌, Bool, true, false, cond, ◌&&◌, ◌||◌, eqb, ltb, ◌⊎◌, inl, inr, List, [], ◌∷◌, ◌++◌, append-nil, refl, sym, ap, subst, ◌∙◌, arith, ◌≤◌}
use Rattle.std.proofs.lemmas.Bool.{eq-eqb, eqb-true, cases_eq, ne_eqb, false≢true, cases_lt, or_cases, or_left, or_right, and_parts, and_from, ltb-true, lt-ltb}
use Rattle.ep_rules.specs.Worlds.{In}
use Rattle.ep_rules.specs.Journals.{Entry, Journals, Scheduled, of, Precedes, Rises, AreNumbered, stamp_after}
use Rattle.ep_rules.specs.Merging.{SomeSchedule}

-- does a come before b
abbrev first : Scheduled → Scheduled → Bool
first a b = ltb a.entry.stamp b.entry.stamp || (eqb a.entry.stamp b.entry.stamp && ltb a.replica b.replica)

first_true : (a b : Scheduled) → first a b ≡ true → Precedes a b
first_true a b e = elim (or_cases (ltb a.entry.stamp b.entry.stamp) (eqb a.entry.stamp b.entry.stamp && ltb a.replica b.replica) e) [
  | inl l ↦ inl (ltb-true a.entry.stamp b.entry.stamp l)
  | inr t ↦ (let p = and_parts (eqb a.entry.stamp b.entry.stamp) (ltb a.replica b.replica) t in inr (eqb-true a.entry.stamp b.entry.stamp p.0, ltb-true a.replica b.replica p.1))
]

first_false : (a b : Scheduled) → first a b ≡ false → Precedes a b → ⊥
first_false a b e (inl l) = false≢true (sym e ∙ or_left (ltb a.entry.stamp b.entry.stamp) (eqb a.entry.stamp b.entry.stamp && ltb a.replica b.replica) (lt-ltb a.entry.stamp b.entry.stamp l))
first_false a b e (inr t) = false≢true (sym e ∙ or_right (ltb a.entry.stamp b.entry.stamp) (eqb a.entry.stamp b.entry.stamp && ltb a.replica b.replica) (and_from (eqb a.entry.stamp b.entry.stamp) (ltb a.replica b.replica) (eq-eqb a.entry.stamp b.entry.stamp t.0) (lt-ltb a.replica b.replica t.1)))

abbrev insert : Scheduled → List Scheduled → List Scheduled
insert a [] = a ∷ []
insert a (b ∷ xs) = cond (first a b) (a ∷ (b ∷ xs)) (b ∷ insert a xs)

pub of_first : (a : Scheduled) (r : ℕ) (xs : List Scheduled) → a.replica ≡ r → of r (a ∷ xs) ≡ a.entry ∷ of r xs
of_first a r xs e = ap (λ b. cond b (a.entry ∷ of r xs) (of r xs)) (eq-eqb a.replica r e)

pub of_skip : (a : Scheduled) (r : ℕ) (xs : List Scheduled) → (a.replica ≡ r → ⊥) → of r (a ∷ xs) ≡ of r xs
of_skip a r xs n = ap (λ b. cond b (a.entry ∷ of r xs) (of r xs)) (ne_eqb a.replica r n)

insert_other : (a : Scheduled) (r : ℕ) (xs : List Scheduled) → (a.replica ≡ r → ⊥) → of r (insert a xs) ≡ of r xs
insert_other a r [] n = of_skip a r [] n
insert_other a r (b ∷ xs) n = go (first a b) (insert_other a r xs n)
  where
    go : (t : Bool) → of r (insert a xs) ≡ of r xs → of r (cond t (a ∷ (b ∷ xs)) (b ∷ insert a xs)) ≡ of r (b ∷ xs)
    go true rec = of_skip a r (b ∷ xs) n
    go false rec = ap (λ z. cond (eqb b.replica r) (b.entry ∷ z) z) rec

insert_own : (a : Scheduled) (xs : List Scheduled) → ((b : Scheduled) → In b xs → b.replica ≡ a.replica → Precedes a b) → of a.replica (insert a xs) ≡ a.entry ∷ of a.replica xs
insert_own a [] h = of_first a a.replica [] refl
insert_own a (b ∷ xs) h = go (first a b) refl (insert_own a xs (λ c k. h c (inr k)))
  where
    go : (t : Bool) → first a b ≡ t → of a.replica (insert a xs) ≡ a.entry ∷ of a.replica xs → of a.replica (cond t (a ∷ (b ∷ xs)) (b ∷ insert a xs)) ≡ a.entry ∷ of a.replica (b ∷ xs)
    go true e rec = of_first a a.replica (b ∷ xs) refl
    go false e rec =
        let n : b.replica ≡ a.replica → ⊥ = (λ s. first_false a b e (h b (inl refl) s)) in
        of_skip b a.replica (insert a xs) n ∙ rec ∙ ap (λ z. a.entry ∷ z) (sym (of_skip b a.replica xs n))

in_insert : (a b : Scheduled) (xs : List Scheduled) → In b (insert a xs) → (a ≡ b) ⊎ In b xs
in_insert a b [] (inl e) = inl e
in_insert a b [] (inr h) = absurd h
in_insert a b (c ∷ xs) h = go (first a c) h (in_insert a b xs)
  where
    go : (t : Bool) → In b (cond t (a ∷ (c ∷ xs)) (c ∷ insert a xs)) → (In b (insert a xs) → (a ≡ b) ⊎ In b xs) → (a ≡ b) ⊎ In b (c ∷ xs)
    go true k rec = k
    go false (inl e) rec = inr (inl e)
    go false (inr k) rec = elim (rec k) [ inl e ↦ inl e | inr m ↦ inr (inr m) ]

pub through : (a b c : Scheduled) → Precedes a b → Precedes b c → Precedes a c
through a b c (inl p) (inl q) = inl (omega arith)
through a b c (inl p) (inr q) = inl (omega arith)
through a b c (inr p) (inl q) = inl (omega arith)
through a b c (inr p) (inr q) = inr (omega arith, omega arith)

rises_insert : (a : Scheduled) (xs : List Scheduled) → Rises xs → ((b : Scheduled) → In b xs → Precedes a b ⊎ Precedes b a) → Rises (insert a xs)
rises_insert a [] rs h = ((λ b k. absurd k), tt)
rises_insert a (b ∷ xs) rs h = go (first a b) refl (rises_insert a xs rs.1 (λ c k. h c (inr k)))
  where
    go : (t : Bool) → first a b ≡ t → Rises (insert a xs) → Rises (cond t (a ∷ (b ∷ xs)) (b ∷ insert a xs))
    go true e rec = let p = first_true a b e in ((λ c k. elim k [ inl s ↦ subst (λ z. Precedes a z) s p | inr m ↦ through a b c p (rs.0 c m) ]), rs)
    go false e rec = (
      λ c k. elim (in_insert a c xs k) [
        | inl s ↦ subst (λ z. Precedes b z) s (elim (h b (inl refl)) [ inl p ↦ absurd (first_false a b e p) | inr q ↦ q ])
        | inr m ↦ rs.0 c m
      ],
      rec,
    )

-- a journal's acts
abbrev add : ℕ → List Entry → List Scheduled → List Scheduled
add r [] xs = xs
add r (e ∷ es) xs = insert (record { replica = r; entry = e }) (add r es xs)

abbrev sorted : Journals → ℕ → List Scheduled
sorted journal zero = []
sorted journal (suc n) = add n (journal n) (sorted journal n)

pub above : (n last : ℕ) (es : List Entry) (x : Entry) → AreNumbered n last es → In x es → last < x.stamp
above n last [] x a h = absurd h
above n last (e ∷ es) x a (inl is) = subst (λ z. last < z.stamp) is a.1
above n last (e ∷ es) x a (inr h) = let l = above (suc n) e.stamp es x a.3 h in (let m = a.1 in omega arith)

pub stamp_least : (n last : ℕ) (es : List Entry) → AreNumbered n last es → last ≤ stamp_after last es
stamp_least n last [] h = omega arith
stamp_least n last (e ∷ es) h = let rest = stamp_least (suc n) e.stamp es h.3 in let low : last < e.stamp = h.1 in omega arith

-- the last stamp isn't below that of any entry
-- the last stamp isn't below that of any entry
pub stamp_reached : (n last x : ℕ) (es : List Entry) (e : Entry) → AreNumbered n last es → In e es → e.stamp ≤ stamp_after x es
stamp_reached n last x [] e h k = absurd k
stamp_reached n last x (z ∷ es) e h (inl is) = subst (λ (y : Entry). y.stamp ≤ stamp_after z.stamp es) is (stamp_least (suc n) z.stamp es h.3)
stamp_reached n last x (z ∷ es) e h (inr k) = stamp_reached (suc n) z.stamp z.stamp es e h.3 k

in_add : (r : ℕ) (es : List Entry) (xs : List Scheduled) (b : Scheduled) → In b (add r es xs) → ((b.replica ≡ r) × In b.entry es) ⊎ In b xs
in_add r [] xs b h = inr h
in_add r (e ∷ es) xs b h = elim (in_insert (record { replica = r; entry = e }) b (add r es xs) h) [
  | inl is ↦ inl (sym (ap (λ (z : Scheduled). z.replica) is), inl (ap (λ (z : Scheduled). z.entry) is))
  | inr k ↦ (elim (in_add r es xs b k) [ inl p ↦ inl (p.0, inr p.1) | inr m ↦ inr m ])
]

add_other : (r q : ℕ) (es : List Entry) (xs : List Scheduled) → (r ≡ q → ⊥) → of q (add r es xs) ≡ of q xs
add_other r q [] xs n = refl
add_other r q (e ∷ es) xs n = insert_other (record { replica = r; entry = e }) q (add r es xs) n ∙ add_other r q es xs n

module _ (r : ℕ) (xs : List Scheduled) (below : (b : Scheduled) → In b xs → b.replica < r) where
  mine : (n last : ℕ) (e : Entry) (es : List Entry) → AreNumbered n last (e ∷ es) → (b : Scheduled) → In b (add r es xs) → b.replica ≡ r → e.stamp < b.entry.stamp
  mine n last e es a b h is = elim (in_add r es xs b h) [
    | inl p ↦ above (suc n) e.stamp es b.entry a.3 p.1
    | inr k ↦ absurd (let l = below b k in omega arith)
  ]

  add_own : (n last : ℕ) (es : List Entry) → AreNumbered n last es → of r (add r es xs) ≡ es ++ of r xs
  add_own n last [] a = refl
  add_own n last (e ∷ es) a = insert_own (record { replica = r; entry = e }) (add r es xs) (λ b k is. inl (mine n last e es a b k is)) ∙ ap (λ z. e ∷ z) (add_own (suc n) e.stamp es a.3)

  add_rises : (n last : ℕ) (es : List Entry) → AreNumbered n last es → Rises xs → Rises (add r es xs)
  add_rises n last [] a rs = rs
  add_rises n last (e ∷ es) a rs = rises_insert (record { replica = r; entry = e }) (add r es xs) (add_rises (suc n) e.stamp es a.3 rs) (λ b k. elim (in_add r es xs b k) [
    | inl p ↦ inl (inl (mine n last e es a b k p.0))
    | inr m ↦ (let l = below b m in elim (cases_lt e.stamp b.entry.stamp) [ inl s ↦ inl (inl s) | inr s ↦ inr (elim (cases_eq b.entry.stamp e.stamp) [ inl q ↦ inr (q, l) | inr q ↦ inl (omega arith) ]) ])
  ])

  none_yet : (ys : List Scheduled) → ((b : Scheduled) → In b ys → b.replica < r) → of r ys ≡ []
  none_yet [] h = refl
  none_yet (b ∷ ys) h = of_skip b r ys (λ s. let l = h b (inl refl) in omega arith) ∙ none_yet ys (λ c k. h c (inr k))

module _ (journal : Journals) (numbered : (r : ℕ) → AreNumbered 1 0 (journal r)) where
  sorted_below : (n : ℕ) (b : Scheduled) → In b (sorted journal n) → b.replica < n
  sorted_below zero b h = absurd h
  sorted_below (suc n) b h = elim (in_add n (journal n) (sorted journal n) b h) [ inl p ↦ (let e = p.0 in omega arith) | inr k ↦ (let l = sorted_below n b k in omega arith) ]

  sorted_rises : (n : ℕ) → Rises (sorted journal n)
  sorted_rises zero = tt
  sorted_rises (suc n) = add_rises n (sorted journal n) (sorted_below n) 1 0 (journal n) (numbered n) (sorted_rises n)

  sorted_of : (n r : ℕ) → r < n → of r (sorted journal n) ≡ journal r
  sorted_of zero r lt = absurd (omega arith)
  sorted_of (suc n) r lt = elim (cases_eq r n) [
    | inl is ↦ subst (λ q. of q (add n (journal n) (sorted journal n)) ≡ journal q) (sym is)
        (add_own n (sorted journal n) (sorted_below n) 1 0 (journal n) (numbered n) ∙ ap (λ z. journal n ++ z) (none_yet n (sorted journal n) (sorted_below n) (sorted journal n) (sorted_below n)) ∙ append-nil (journal n))
    | inr ne ↦ add_other n r (journal n) (sorted journal n) (λ s. ne (sym s)) ∙ sorted_of n r (omega arith)
  ]

pub some_schedule_lem : SomeSchedule
some_schedule_lem n journal rest numbered = (
  sorted journal n,
  (
    (λ r. elim (cases_lt r n) [
      | inl lt ↦ sorted_of journal numbered n r lt
      | inr ge ↦ none_yet r [] (λ b k. absurd k) (sorted journal n) (λ b k. let l = sorted_below journal numbered n b k in omega arith) ∙ sym (rest r ge)
    ]),
    sorted_rises journal numbered n,
  ),
)

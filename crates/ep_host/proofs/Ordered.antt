-- Each step of an inbox keeps its rule.
use Rattle.std.proofs.Common.{◌≡◌, ◌≢◌, ℕ, ◌<◌, ◌≤◌, zero, suc, eqb, true, false, Bool, cond, List, [], ◌∷◌, ◌++◌, length, sym, refl, ap, ◌∙◌, subst, ⊎_elim, append_assoc, arith, length-append, ◌⊎◌, inl, inr}
use Rattle.std.proofs.lemmas.List.{append-nil, length-set}
use Rattle.std.proofs.lemmas.Bool.Decides.{eqb_tells}
use Rattle.std.proofs.lemmas.Bool.{ne_eqb}
use mathlib.Core.Option.{some, some-injective, some-ne-none}
use lib.ListN.{get_elem?}
use Rattle.crossbeam_queue.specs.Fifo.{Pushes, Pops, Admits}
use Rattle.crossbeam_queue.proofs.Lists.{at_set}
use Rattle.ep_host.specs.declared.hand.Hand.{Hand}
use Rattle.ep_host.specs.Inboxes.{hand, items_of, of_port, Knows, InOrder}

same : (n : ℕ) → eqb n n ≡ true
same n = ⊎_elim (λ (t : _). t.0) (λ (t : _). absurd (t.1 refl)) (eqb_tells n n)

module _ {T : Type 0} where
  -- a port that is there has a number below the count of all
  low_there : (l : List (Hand T)) (i : ℕ) (a : Hand T) → get_elem? l i ≡ some a → i < length l
  low_there [] i a e = absurd (some-ne-none a (sym e))
  low_there (x ∷ xs) zero a e = omega arith
  low_there (x ∷ xs) (suc i) a e = let l = low_there xs i a e in omega (arith, l)

  -- one item more of a port

  items_more : (es : List (ℕ × T)) (p : ℕ) (x : T) → items_of (es ++ (p, x) ∷ []) ≡ items_of es ++ x ∷ []
  items_more [] p x = refl
  items_more (e ∷ es) p x = ap (λ (l : List T). e.1 ∷ l) (items_more es p x)

  part_more : (q : ℕ) (es : List (ℕ × T)) (p : ℕ) (x : T) → of_port q (es ++ (p, x) ∷ []) ≡ of_port q es ++ cond (eqb p q) (x ∷ []) []
  part_more q [] p x = refl
  part_more q (e ∷ es) p x = there (eqb e.0 q) (part_more q es p x)
    where
      there : (b : Bool) → of_port q (es ++ (p, x) ∷ []) ≡ of_port q es ++ cond (eqb p q) (x ∷ []) [] →
          cond b (e.1 ∷ of_port q (es ++ (p, x) ∷ [])) (of_port q (es ++ (p, x) ∷ [])) ≡ cond b (e.1 ∷ of_port q es) (of_port q es) ++ cond (eqb p q) (x ∷ []) []
      there true h = ap (λ (l : List T). e.1 ∷ l) h
      there false h = h

  part_own : (es : List (ℕ × T)) (p : ℕ) (x : T) → of_port p (es ++ (p, x) ∷ []) ≡ of_port p es ++ x ∷ []
  part_own es p x = part_more p es p x ∙ ap (λ (b : Bool). of_port p es ++ cond b (x ∷ []) []) (same p)

  part_other : (q : ℕ) (es : List (ℕ × T)) (p : ℕ) (x : T) → (p ≡ q → ⊥) → of_port q (es ++ (p, x) ∷ []) ≡ of_port q es
  part_other q es p x other = part_more q es p x ∙ ap (λ (b : Bool). of_port q es ++ cond b (x ∷ []) []) (ne_eqb p q other) ∙ append-nil (of_port q es)

  -- The steps.

  -- the last of a list one longer, or one of those before it
  at_end : (l : List (Hand T)) (a b : Hand T) (j : ℕ) → get_elem? (l ++ a ∷ []) j ≡ some b → (get_elem? l j ≡ some b) ⊎ ((length l ≤ j) × (a ≡ b))
  at_end [] a b zero e = inr (omega arith, some-injective a b e)
  at_end [] a b (suc j) e = absurd (some-ne-none b (sym e))
  at_end (x ∷ xs) a b zero e = inl e
  at_end (x ∷ xs) a b (suc j) e = ⊎_elim (λ (h : get_elem? xs j ≡ some b). inl h) (λ (h : (length xs ≤ j) × (a ≡ b)). inr (omega (arith, h.0), h.1)) (at_end xs a b j e)

  newcomer : (put taken : List (ℕ × T)) (p : ℕ) (v : Hand T) → of_port p put ≡ [] → of_port p taken ≡ [] → hand [] [] ≡ v → Knows put taken p v
  newcomer put taken p v a b is = subst (λ (u : Hand T). Knows put taken p u) is (sym a, sym b)

  pub begins : InOrder {T = T} [] (hand [] [] ∷ [])
  begins = ([], [], refl, (λ p v at. ⊎_elim (λ (e : get_elem? [] p ≡ some v). absurd (some-ne-none v (sym e))) (λ (e : (0 ≤ p) × (hand [] [] ≡ v)). newcomer [] [] p v refl refl e.1) (at_end [] (hand [] []) v p at)), λ p past. (refl, refl))

  pub admits : Admits InOrder (hand {T = T} [] [])
  admits items ports h = (
    h.0,
    h.1,
    h.2,
    (λ p v at. ⊎_elim (λ (e : get_elem? ports p ≡ some v). h.3 p v e) (λ (e : (length ports ≤ p) × (hand [] [] ≡ v)). newcomer h.0 h.1 p v (h.4 p e.0).0 (h.4 p e.0).1 e.1) (at_end ports (hand [] []) v p at)),
    λ p past. h.4 p (let n = length-append ports (hand [] [] ∷ []) in omega (arith, past, n)),
  )

  pub puts : (n p : ℕ) (v : Hand T) (x : T) → Pushes InOrder n p v x (λ w. w ≡ hand (v.put ++ x ∷ []) v.taken)
  puts n p v x items ports room h at =
      let w : Hand T = hand (v.put ++ x ∷ []) v.taken in let put = h.0 ++ (p, x) ∷ [] in let mine = h.3 p v at in (
        w,
        (
          put,
          h.1,
          items_more h.0 p x ∙ ap (λ (l : List T). l ++ x ∷ []) h.2 ∙ append_assoc (items_of h.1) items (x ∷ []),
          (λ q u e. ⊎_elim (λ (t : (q ≡ p) × (w ≡ u)). subst (λ (y : ℕ × Hand T). Knows put h.1 y.0 y.1) (λ i. (sym t.0 i, t.1 i)) (ap (λ (l : List T). l ++ x ∷ []) mine.0 ∙ sym (part_own h.0 p x), mine.1))
              (λ (t : (q ≢ p) × (get_elem? ports q ≡ some u)). let was = h.3 q u t.1 in (was.0 ∙ sym (part_other q h.0 p x (λ s. t.0 (sym s))), was.1)) (at_set ports p q w u e)),
          (λ q past.
              let far : length ports ≤ q = (let l = length-set ports p w in omega (arith, l, past)) in
              let other : p ≡ q → ⊥ = (λ s. absurd (let l = low_there ports p v at in omega (arith, l, far, s))) in
              let none = h.4 q far in (part_other q h.0 p x other ∙ none.0, none.1)),
        ),
        refl,
      )

  pub takes : (p : ℕ) (v : Hand T) → Pops InOrder p v (λ x w. w ≡ hand v.put (v.taken ++ x ∷ []))
  takes p v x items ports h at =
      let w : Hand T = hand v.put (v.taken ++ x ∷ []) in let taken = h.1 ++ (p, x) ∷ [] in let mine = h.3 p v at in (
        w,
        (
          h.0,
          taken,
          h.2 ∙ sym (append_assoc (items_of h.1) (x ∷ []) items) ∙ ap (λ (l : List T). l ++ items) (sym (items_more h.1 p x)),
          (λ q u e. ⊎_elim (λ (t : (q ≡ p) × (w ≡ u)). subst (λ (y : ℕ × Hand T). Knows h.0 taken y.0 y.1) (λ i. (sym t.0 i, t.1 i)) (mine.0, ap (λ (l : List T). l ++ x ∷ []) mine.1 ∙ sym (part_own h.1 p x)))
              (λ (t : (q ≢ p) × (get_elem? ports q ≡ some u)). let was = h.3 q u t.1 in (was.0, was.1 ∙ sym (part_other q h.1 p x (λ s. t.0 (sym s))))) (at_set ports p q w u e)),
          (λ q past.
              let far : length ports ≤ q = (let l = length-set ports p w in omega (arith, l, past)) in
              let other : p ≡ q → ⊥ = (λ s. absurd (let l = low_there ports p v at in omega (arith, l, far, s))) in
              let none = h.4 q far in (none.0, part_other q h.1 p x other ∙ none.1)),
        ),
        refl,
      )

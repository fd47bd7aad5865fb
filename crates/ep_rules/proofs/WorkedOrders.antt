-- Worked execution orders: the order of each small graph, by the definition.
use Rattle.std.proofs.Common.{◌≡◌, ℕ, ◌<◌, Bool, true, ◌&&◌, cond, eqb, ltb, ◌⊎◌, inl, inr, List, [], ◌∷◌, length, Option, Some, None, refl, sym, ap, subst, ◌∙◌, arith}
use Rattle.std.proofs.lemmas.Bool.{and_parts, ltb-true}
use Rattle.ep_base.specs.Instances.{instance_of}
use Rattle.ep_base.specs.declared.attrs.Attrs.{Attrs}
use Rattle.ep_base.specs.Places.{place, Has}
use Rattle.ep_rules.specs.Graph.{Graph, Reaches}
use Rattle.ep_rules.specs.Graph.Reaches.{itself, onward}
use Rattle.ep_rules.specs.Order.{Ranks, Rises, Together, IsReady, IsNext, InBlocks, IsComplete, IsPlan, IsBlocked}
use Rattle.ep_rules.proofs.Places.{has_cons}

-- Facts of all members of a list, and of all that is reached inside one.

abbrev Each : (ℕ → Type 0) → List ℕ → Type 0
Each P [] = Unit {0}
Each P (x ∷ xs) = P x × Each P xs

each : (P : ℕ → Type 0) (xs : List ℕ) → Each P xs → (j : ℕ) → Has xs j → P j
each P [] all j h = absurd (omega arith)
each P (x ∷ xs) all j h = elim (has_cons x j xs h) [ inl e ↦ subst P e all.0 | inr k ↦ each P xs all.1 j k ]

abbrev has_all : List ℕ → List ℕ → Bool
has_all xs [] = true
has_all xs (k ∷ ks) = ltb (place xs k) (length xs) && has_all xs ks

abbrev has_deps : List ℕ → Option Attrs → Bool
has_deps xs None = true
has_deps xs (Some a) = has_all xs a.deps

-- what the ys depend on is among the xs
abbrev closes : Graph → List ℕ → List ℕ → Bool
closes g xs [] = true
closes g xs (y ∷ ys) = has_deps xs (g y) && closes g xs ys

has_all_of : (xs ks : List ℕ) → has_all xs ks ≡ true → (k : ℕ) → Has ks k → Has xs k
has_all_of xs [] e k h = absurd (omega arith)
has_all_of xs (x ∷ ks) e k h =
    let p = and_parts (ltb (place xs x) (length xs)) (has_all xs ks) e in
    elim (has_cons x k ks h) [ inl i ↦ subst (λ z. Has xs z) i (ltb-true _ _ p.0) | inr r ↦ has_all_of xs ks p.1 k r ]

closed_at : (g : Graph) (xs ys : List ℕ) → closes g xs ys ≡ true → (j : ℕ) → Has ys j → has_deps xs (g j) ≡ true
closed_at g xs [] e j h = absurd (omega arith)
closed_at g xs (y ∷ ys) e j h =
    let p = and_parts (has_deps xs (g y)) (closes g xs ys) e in
    elim (has_cons y j ys h) [ inl i ↦ subst (λ z. has_deps xs (g z) ≡ true) i p.0 | inr r ↦ closed_at g xs ys p.1 j r ]

inside : (g : Graph) (xs : List ℕ) → closes g xs xs ≡ true → (i : ℕ) → Has xs i → (j : ℕ) → Reaches g i j → Has xs j
inside g xs e i h j itself = h
inside g xs e i h j (onward {j = k} a r is dep) = has_all_of xs a.deps (ap (has_deps xs) (sym is) ∙ closed_at g xs xs e k (inside g xs e i h k r)) j dep

-- what all that i reaches has to pass, where it is among the xs
from : (g : Graph) (xs : List ℕ) → closes g xs xs ≡ true → (i : ℕ) → Has xs i → (P : ℕ → Type 0) → Each P xs → (j : ℕ) → Reaches g i j → P j
from g xs e i h P all j r = each P xs all j (inside g xs e i h j r)

-- A next block, by its members one by one. All that the root reaches is among the xs, and all that `first` reaches among the ys.
module _ (g : Graph) (done : List ℕ) (root first : ℕ) (xs ys block : List ℕ) (xs_closed : closes g xs xs ≡ true) (has_root : Has xs root) (ys_closed : closes g ys ys ≡ true) (has_first : Has ys first) where
  next : Reaches g root first → ¬ Has done first →
      Each (λ j. Has done j ⊎ Reaches g j first) ys →
      Each (λ j. IsReady g done j → ¬ (j < first)) xs →
      Each (λ j. Together g first j × ¬ Has done j) block →
      Each (λ j. Reaches g j first → ¬ Has done j → Has block j) ys →
      Rises g block → IsNext g done root block
  next path left clear least forth back rises = record {
    first = first;
    reached = path;
    ready = record { left = left; clear = from g ys ys_closed first has_first (λ j. Has done j ⊎ Reaches g j first) clear };
    least = from g xs xs_closed root has_root (λ j. IsReady g done j → ¬ (j < first)) least;
    is = record {
      members = λ j. (each (λ j. Together g first j × ¬ Has done j) block forth j, λ m. from g ys ys_closed first has_first (λ j. Reaches g j first → ¬ Has done j → Has block j) back j m.0.0 m.0.1 m.1);
      rises = rises;
    };
  }

-- All that the root reaches is among the xs.
module _ (g : Graph) (root : ℕ) (xs : List ℕ) (closed : closes g xs xs ≡ true) (has_root : Has xs root) where
  complete : Each (λ j. (x : Attrs) × (g j ≡ Some x)) xs → IsComplete g root
  complete all = from g xs closed root has_root (λ j. (x : Attrs) × (g j ≡ Some x)) all

  -- nothing is left
  ends : (done : List ℕ) → Each (λ j. Has done j) xs → InBlocks g done root []
  ends done all = from g xs closed root has_root (λ j. Has done j) all

-- The instances and attributes.

abbrev a : ℕ
a = instance_of 0 1

abbrev b : ℕ
b = instance_of 1 1

abbrev c : ℕ
c = instance_of 2 1

abbrev attrs : ℕ → List ℕ → Attrs
attrs seq deps = record { seq = seq; deps = deps }

-- three that depend on one another in a ring, with equal sequence numbers: by replica
abbrev ring : Graph
ring i = cond (eqb i a) (Some (attrs 2 (b ∷ []))) (cond (eqb i b) (Some (attrs 2 (c ∷ []))) (cond (eqb i c) (Some (attrs 2 (a ∷ []))) None))

ring_ab : Reaches ring a b
ring_ab = onward (attrs 2 (b ∷ [])) itself refl (omega arith)

ring_ac : Reaches ring a c
ring_ac = onward (attrs 2 (c ∷ [])) ring_ab refl (omega arith)

ring_ca : Reaches ring c a
ring_ca = onward (attrs 2 (a ∷ [])) itself refl (omega arith)

ring_bc : Reaches ring b c
ring_bc = onward (attrs 2 (c ∷ [])) itself refl (omega arith)

ring_ba : Reaches ring b a
ring_ba = onward (attrs 2 (a ∷ [])) ring_bc refl (omega arith)

abbrev abc : List ℕ
abc = a ∷ (b ∷ (c ∷ []))

ring_order : IsPlan ring [] a abc
ring_order = inr (
  λ h. omega arith,
  (
    complete ring a abc refl (omega arith) ((attrs 2 (b ∷ []), refl), ((attrs 2 (c ∷ []), refl), ((attrs 2 (a ∷ []), refl), tt))),
    (
      abc ∷ [],
      refl,
      (
        next ring [] a a abc abc abc refl (omega arith) refl (omega arith) itself (λ h. omega arith)
            (inr itself, (inr ring_ba, (inr ring_ca, tt)))
            ((λ r l. omega arith), ((λ r l. omega arith), ((λ r l. omega arith), tt)))
            (((itself, itself), λ h. omega arith), (((ring_ab, ring_ba), λ h. omega arith), (((ring_ac, ring_ca), λ h. omega arith), tt)))
            ((λ r l. omega arith), ((λ r l. omega arith), ((λ r l. omega arith), tt)))
            (each (Ranks ring a) (b ∷ (c ∷ [])) (inr (refl, omega arith), (inr (refl, omega arith), tt)), (each (Ranks ring b) (c ∷ []) (inr (refl, omega arith), tt), ((λ j h. absurd (omega arith)), tt))),
        ends ring a abc refl (omega arith) abc (omega arith, (omega arith, (omega arith, tt))),
      ),
    ),
  ),
)

-- two that depend on each other: the one with the smaller sequence number first
abbrev pair : Graph
pair i = cond (eqb i a) (Some (attrs 3 (b ∷ []))) (cond (eqb i b) (Some (attrs 2 (a ∷ []))) None)

pair_ab : Reaches pair a b
pair_ab = onward (attrs 3 (b ∷ [])) itself refl (omega arith)

pair_ba : Reaches pair b a
pair_ba = onward (attrs 2 (a ∷ [])) itself refl (omega arith)

pair_order : IsPlan pair [] a (b ∷ (a ∷ []))
pair_order = inr (
  λ h. omega arith,
  (
    complete pair a (a ∷ (b ∷ [])) refl (omega arith) ((attrs 3 (b ∷ []), refl), ((attrs 2 (a ∷ []), refl), tt)),
    (
      (b ∷ (a ∷ [])) ∷ [],
      refl,
      (
        next pair [] a a (a ∷ (b ∷ [])) (a ∷ (b ∷ [])) (b ∷ (a ∷ [])) refl (omega arith) refl (omega arith) itself (λ h. omega arith)
            (inr itself, (inr pair_ba, tt))
            ((λ r l. omega arith), ((λ r l. omega arith), tt))
            (((pair_ab, pair_ba), λ h. omega arith), (((itself, itself), λ h. omega arith), tt))
            ((λ r l. omega arith), ((λ r l. omega arith), tt))
            (each (Ranks pair b) (a ∷ []) (inl (omega arith), tt), ((λ j h. absurd (omega arith)), tt)),
        ends pair a (a ∷ (b ∷ [])) refl (omega arith) (b ∷ (a ∷ [])) (omega arith, (omega arith, tt)),
      ),
    ),
  ),
)

-- what is depended on goes first, though its sequence number is greater
abbrev chain : Graph
chain i = cond (eqb i a) (Some (attrs 2 (b ∷ []))) (cond (eqb i b) (Some (attrs 5 [])) None)

chain_ab : Reaches chain a b
chain_ab = onward (attrs 2 (b ∷ [])) itself refl (omega arith)

-- 0.1 isn't ready before 1.1 is done
chain_waits : IsReady chain [] a → ⊥
chain_waits r = elim (r.clear b chain_ab) [ inl h ↦ omega arith | inr back ↦ (let h : Has (b ∷ []) a = inside chain (b ∷ []) refl b (omega arith) a back in omega arith) ]

chain_complete : IsComplete chain a
chain_complete = complete chain a (a ∷ (b ∷ [])) refl (omega arith) ((attrs 2 (b ∷ []), refl), ((attrs 5 [], refl), tt))

chain_first : IsNext chain [] a (b ∷ [])
chain_first =
    next chain [] a b (a ∷ (b ∷ [])) (b ∷ []) (b ∷ []) refl (omega arith) refl (omega arith) chain_ab (λ h. omega arith)
    (inr itself, tt)
    ((λ r l. chain_waits r), ((λ r l. omega arith), tt))
    (((itself, itself), λ h. omega arith), tt)
    ((λ r l. omega arith), tt)
    ((λ j h. absurd (omega arith)), tt)

chain_second : IsNext chain (b ∷ []) a (a ∷ [])
chain_second =
    next chain (b ∷ []) a a (a ∷ (b ∷ [])) (a ∷ (b ∷ [])) (a ∷ []) refl (omega arith) refl (omega arith) itself (λ h. omega arith)
    (inr itself, (inl (omega arith), tt))
    ((λ r l. omega arith), ((λ r l. omega arith), tt))
    (((itself, itself), λ h. omega arith), tt)
    ((λ r l. omega arith), ((λ r l. absurd (l (omega arith))), tt))
    ((λ j h. absurd (omega arith)), tt)

chain_ends : InBlocks chain (b ∷ (a ∷ [])) a []
chain_ends = ends chain a (a ∷ (b ∷ [])) refl (omega arith) (b ∷ (a ∷ [])) (omega arith, (omega arith, tt))

chain_order : IsPlan chain [] a (b ∷ (a ∷ []))
chain_order = inr (λ h. omega arith, (chain_complete, ((b ∷ []) ∷ ((a ∷ []) ∷ []), refl, (chain_first, (chain_second, chain_ends)))))

-- what was executed isn't executed again
rest_of_chain : IsPlan chain (b ∷ []) a (a ∷ [])
rest_of_chain = inr (λ h. omega arith, (chain_complete, ((a ∷ []) ∷ [], refl, (chain_second, chain_ends))))

none_of_chain : IsPlan chain (b ∷ (a ∷ [])) a []
none_of_chain = inl (omega arith, refl)

-- two that depend on nothing: by replica, whatever their sequence numbers
abbrev fork : Graph
fork i = cond (eqb i a) (Some (attrs 2 [])) (cond (eqb i b) (Some (attrs 1 [])) (cond (eqb i c) (Some (attrs 3 (a ∷ (b ∷ [])))) None))

fork_ca : Reaches fork c a
fork_ca = onward (attrs 3 (a ∷ (b ∷ []))) itself refl (omega arith)

fork_cb : Reaches fork c b
fork_cb = onward (attrs 3 (a ∷ (b ∷ []))) itself refl (omega arith)

fork_order : IsPlan fork [] c abc
fork_order = inr (
  λ h. omega arith,
  (
    complete fork c abc refl (omega arith) ((attrs 2 [], refl), ((attrs 1 [], refl), ((attrs 3 (a ∷ (b ∷ [])), refl), tt))),
    (
      (a ∷ []) ∷ ((b ∷ []) ∷ ((c ∷ []) ∷ [])),
      refl,
      (
        next fork [] c a abc (a ∷ []) (a ∷ []) refl (omega arith) refl (omega arith) fork_ca (λ h. omega arith)
            (inr itself, tt)
            ((λ r l. omega arith), ((λ r l. omega arith), ((λ r l. omega arith), tt)))
            (((itself, itself), λ h. omega arith), tt)
            ((λ r l. omega arith), tt)
            ((λ j h. absurd (omega arith)), tt),
        (
          next fork (a ∷ []) c b abc (b ∷ []) (b ∷ []) refl (omega arith) refl (omega arith) fork_cb (λ h. omega arith)
              (inr itself, tt)
              ((λ r l. r.left (omega arith)), ((λ r l. omega arith), ((λ r l. omega arith), tt)))
              (((itself, itself), λ h. omega arith), tt)
              ((λ r l. omega arith), tt)
              ((λ j h. absurd (omega arith)), tt),
          (
            next fork (a ∷ (b ∷ [])) c c abc abc (c ∷ []) refl (omega arith) refl (omega arith) itself (λ h. omega arith)
                (inl (omega arith), (inl (omega arith), (inr itself, tt)))
                ((λ r l. r.left (omega arith)), ((λ r l. r.left (omega arith)), ((λ r l. omega arith), tt)))
                (((itself, itself), λ h. omega arith), tt)
                ((λ r l. absurd (l (omega arith))), ((λ r l. absurd (l (omega arith))), ((λ r l. omega arith), tt)))
                ((λ j h. absurd (omega arith)), tt),
            ends fork c abc refl (omega arith) abc (omega arith, (omega arith, (omega arith, tt))),
          ),
        ),
      ),
    ),
  ),
)

-- of two that aren't committed the root waits for the lesser one
abbrev broken : Graph
broken i = cond (eqb i a) (Some (attrs 2 (b ∷ (instance_of 1 2 ∷ [])))) None

waits_for_the_least : IsBlocked broken [] a b
waits_for_the_least = record {
  left = λ h. omega arith;
  reached = onward (attrs 2 (b ∷ (instance_of 1 2 ∷ []))) itself refl (omega arith);
  missing = refl;
  least = from broken (a ∷ (b ∷ (instance_of 1 2 ∷ []))) refl a (omega arith) (λ j. broken j ≡ None → ¬ (j < b)) ((λ e l. absurd (cc)), ((λ e l. omega arith), ((λ e l. omega arith), tt)));
}

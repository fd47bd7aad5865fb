-- The queue of components, step by step.
use Rattle.std.proofs.Common.{◌≡◌, ℕ, ◌+◌, ◌<◌, ◌⊎◌, ◌↔◌, inl, inr, List, [], ◌∷◌, ◌++◌, map, Option, Some, None, true, false, cond, eqb, refl, sym, ap, subst, ◌∙◌, arith, append-nil, append_assoc}
use Rattle.std.proofs.lemmas.Bool.{cases_Bool, eqb-true, eq-eqb, false≢true}
use Rattle.std.specs.List.{flat_map, filter, AllByRecursion}
use Rattle.ep_base.specs.declared.attrs.Attrs.{Attrs}
use Rattle.ep_base.specs.Places.{Has}
use Rattle.ep_base.proofs.Places.{Has-first}
use Rattle.ep_rules.specs.Graph.{Graph, Reaches}
use Rattle.ep_rules.specs.Graph.Reaches.{itself, onward}
use Rattle.ep_rules.specs.Order.{IsReady, IsBlock, IsListed}
use Rattle.ep_rules.proofs.Places.{has_or, has_left, has_right, has_split, has_cons, has_tail, has_filter, filter_has}
use Rattle.ep_rules.proofs.Reaching.{reach_trans}
use Rattle.ep_exec.proofs.Blocks.{IsUnderWay, under_way_none, under_way_more, under_way_all, some_last}
use Rattle.ep_exec.proofs.Clear.{AllDone, out_yes, out_then, passed_kept, passed_within, passed_first, first_has, first_lacks, waits_all, waits_from, reached_in, block_is}
use Rattle.ep_exec.proofs.Counts.{left_count, left_falls}
use Rattle.ep_exec.specs.Found.{IsLeast}
use Rattle.ep_exec.specs.Queue.{WaitsMore, IsPriority, MadeReady, Takes, IsPlaced, IsFirst, IsBehind, Among, IsInReady, IsInWaiting, Stands}
use Rattle.ep_exec.specs.Ready.{Waiting, waiting_of, with_passed, first_of, is_out, ranked_left_of}
use Rattle.ep_exec.specs.Walk.{IsComponent, AreComponents}

-- Lists of components.

among_split : (xs ys : List Waiting) (i : ℕ) → Among (xs ++ ys) i → Among xs i ⊎ Among ys i
among_split [] ys i h = inr h
among_split (x ∷ xs) ys i h = elim h [
  | inl a ↦ inl (inl a)
  | inr a ↦ elim (among_split xs ys i a) [ inl b ↦ inl (inr b) | inr b ↦ inr b ]
]

among_left : (xs ys : List Waiting) (i : ℕ) → Among xs i → Among (xs ++ ys) i
among_left [] ys i h = absurd h
among_left (x ∷ xs) ys i h = elim h [ inl a ↦ inl a | inr a ↦ inr (among_left xs ys i a) ]

among_right : (xs ys : List Waiting) (i : ℕ) → Among ys i → Among (xs ++ ys) i
among_right [] ys i h = h
among_right (x ∷ xs) ys i h = inr (among_right xs ys i h)

all_front : (P : Waiting → Type 0) (xs : List Waiting) (w : Waiting) → AllByRecursion P (xs ++ w ∷ []) → AllByRecursion P xs
all_front P [] w h = tt
all_front P (x ∷ xs) w h = (h.0, all_front P xs w h.1)

all_last : (P : Waiting → Type 0) (xs : List Waiting) (w : Waiting) → AllByRecursion P (xs ++ w ∷ []) → P w
all_last P [] w h = h.0
all_last P (x ∷ xs) w h = all_last P xs w h.1

all_more : (P : Waiting → Type 0) (xs : List Waiting) (w : Waiting) → AllByRecursion P xs → P w → AllByRecursion P (xs ++ w ∷ [])
all_more P [] w h p = (p, tt)
all_more P (x ∷ xs) w h p = (h.0, all_more P xs w h.1 p)

all_map : (P Q : Waiting → Type 0) (xs : List Waiting) → ((w : Waiting) → P w → Q w) → AllByRecursion P xs → AllByRecursion Q xs
all_map P Q [] f h = tt
all_map P Q (x ∷ xs) f h = (f x h.0, all_map P Q xs f h.1)

-- a component of which a fact holds
record IsFound (P : Waiting → Type 0) (i : ℕ) : Type 0 where
  pub part : Waiting
  pub is : P part
  pub has : Has part.members i

among_all : (P : Waiting → Type 0) (ws : List Waiting) (i : ℕ) → AllByRecursion P ws → Among ws i → IsFound P i
among_all P [] i h a = absurd a
among_all P (w ∷ ws) i h a = elim a [ inl m ↦ record { part = w; is = h.0; has = m } | inr m ↦ among_all P ws i h.1 m ]

some_same : (v w : Waiting) → Some v ≡ Some w → v ≡ w
some_same v w e = cc

none_some : (w : Waiting) → None ≡ Some w → ⊥
none_some w e = absurd (cc)

-- Components.

placed_passed : (g : Graph) (all order : List ℕ) (w : Waiting) → IsPlaced g all order w → IsPlaced g all order (with_passed order w)
placed_passed g all order w p = record {
  comp = p.comp;
  within = p.within;
  apart = p.apart;
  deps = λ i d a h e q. elim (p.deps i d a h e q) [
    | inl k ↦ inl k
    | inr (inl k) ↦ inr (passed_kept order w.waits d k)
    | inr (inr k) ↦ inr (inr k)
  ];
  outside = λ d h. p.outside d (passed_within order w.waits d h);
}

placed_later : (g : Graph) (all order block : List ℕ) (w : Waiting) → IsPlaced g all order w → ((i : ℕ) → Has w.members i → ¬ Has block i) → IsPlaced g all (order ++ block) w
placed_later g all order block w p n = record {
  comp = p.comp;
  within = p.within;
  apart = λ i h k. elim (has_split order block i k) [ inl y ↦ p.apart i h y | inr y ↦ n i h y ];
  deps = λ i d a h e q. elim (p.deps i d a h e q) [
    | inl k ↦ inl k
    | inr (inl k) ↦ inr (inl k)
    | inr (inr k) ↦ inr (inr (has_left order block d k))
  ];
  outside = p.outside;
}

-- two components that share an instance have the same
shared : (g : Graph) (c d : List ℕ) (i j : ℕ) → IsComponent g c → IsComponent g d → Has c i → Has d i → Has c j → Has d j
shared g c d i j pc pd hc hd h = (pd i j hd).1 ((pc i j hc).0 h)

placed_first : (g : Graph) (all c : List ℕ) → IsComponent g c → ((i : ℕ) → Has c i → Has all i) → IsPlaced g all [] (waiting_of g c)
placed_first g all c comp sub = record {
  comp = comp;
  within = sub;
  apart = λ i h k. absurd (omega arith);
  deps = λ i d a h e q. elim (has_or c d) [ inl k ↦ inl k | inr n ↦ inr (inl (waits_all g c c i d a h e q n)) ];
  outside = λ d h. waits_from g c c d h;
}

-- Keys.

priority_has : (executed c : List ℕ) (x : ℕ) → IsPriority executed c (Some x) → (i : ℕ) × Has c i
priority_has executed c x (inl p) = (p.0, p.1.0)
priority_has executed c x (inr p) = (x, p.1.0)

-- components of one priority share an instance
priority_shared : (executed c d : List ℕ) (x : ℕ) → IsPriority executed c (Some x) → IsPriority executed d (Some x) → (i : ℕ) × Has c i × Has d i
priority_shared executed c d x (inl p) (inl q) = let a : x ≡ p.0 + 524288 = p.2 in let b : x ≡ q.0 + 524288 = q.2 in let same : q.0 ≡ p.0 = omega arith in (p.0, p.1.0, subst (λ y. Has d y) same q.1.0)
priority_shared executed c d x (inl p) (inr q) = let a : x ≡ p.0 + 524288 = p.2 in let b : x < 524288 = q.0 in absurd (omega arith)
priority_shared executed c d x (inr p) (inl q) = let a : x < 524288 = p.0 in let b : x ≡ q.0 + 524288 = q.2 in absurd (omega arith)
priority_shared executed c d x (inr p) (inr q) = (x, p.1.0, q.1.0)

-- and those that share all have one priority
priority_same : (executed c d : List ℕ) (x y : ℕ) → IsPriority executed c (Some x) → IsPriority executed d (Some y) → ((i : ℕ) → Has c i → Has d i) → ((i : ℕ) → Has d i → Has c i) → x ≡ y
priority_same executed c d x y (inl p) (inl q) to from =
    let a : ¬ (q.0 < p.0) = p.1.2 q.0 (from q.0 q.1.0) q.1.1 in
    let b : ¬ (p.0 < q.0) = q.1.2 p.0 (to p.0 p.1.0) p.1.1 in
    let ex : x ≡ p.0 + 524288 = p.2 in
    let ey : y ≡ q.0 + 524288 = q.2 in
    omega arith
priority_same executed c d x y (inl p) (inr q) to from = absurd (p.1.1 (q.2 p.0 (to p.0 p.1.0)))
priority_same executed c d x y (inr p) (inl q) to from = absurd (q.1.1 (p.2 q.0 (from q.0 q.1.0)))
priority_same executed c d x y (inr p) (inr q) to from =
    let a : ¬ (y < x) = p.1.2 y (from y q.1.0) tt in
    let b : ¬ (x < y) = q.1.2 x (to x p.1.0) tt in
    omega arith

-- Steps.

module _ (g : Graph) (executed all order : List ℕ) where
  stand_wait : (todo : List Waiting) (left : List ℕ) (ready : ℕ → Option Waiting) (waits new : ℕ → List Waiting) (w v : Waiting) (d : ℕ) → IsPlaced g all order v → ((i : ℕ) → Has w.members i → Has v.members i) → Has v.waits d → ¬ Has order d → WaitsMore waits d v new → Stands g executed all order (todo ++ w ∷ []) left ready waits → Stands g executed all order todo left ready new
  stand_wait todo left ready waits new w v d pv same on ahead more s = record {
    covers = λ i h. elim (s.covers i h) [
      | inl o ↦ inl o
      | inr (inl t) ↦ elim (among_split todo (w ∷ []) i t) [
        | inl a ↦ inr (inl a)
        | inr (inl m) ↦ inr (inr (inr (record { at = d; has = subst (λ ws. Among ws i) (sym (now d (eq-eqb d d refl))) (among_right (waits d) (v ∷ []) i (inl (same i m))) })))
        | inr (inr b) ↦ absurd b
      ]
      | inr (inr (inl r)) ↦ inr (inr (inl r))
      | inr (inr (inr k)) ↦ inr (inr (inr (record { at = k.at; has = kept k.at i k.has })))
    ];
    placed = all_front (IsPlaced g all order) todo w s.placed;
    first = s.first;
    behind = λ q. elim (cases_Bool (eqb q d)) [
      | inl e ↦ subst (AllByRecursion (IsBehind g all order left q)) (sym (now q e)) (all_more (IsBehind g all order left q) (waits q) v (s.behind q)
          (subst (λ y. IsBehind g all order left y v) (sym (eqb-true q d e)) (record { placed = pv; waits_for = on; still = inl ahead })))
      | inr e ↦ subst (AllByRecursion (IsBehind g all order left q)) (sym (was q e)) (s.behind q)
    ];
  }
    where
      now : (q : ℕ) → eqb q d ≡ true → new q ≡ waits q ++ v ∷ []
      now q e = more q ∙ ap (λ b. cond b (waits q ++ v ∷ []) (waits q)) e

      was : (q : ℕ) → eqb q d ≡ false → new q ≡ waits q
      was q e = more q ∙ ap (λ b. cond b (waits q ++ v ∷ []) (waits q)) e

      kept : (q i : ℕ) → Among (waits q) i → Among (new q) i
      kept q i h = elim (cases_Bool (eqb q d)) [
        | inl e ↦ subst (λ ws. Among ws i) (sym (now q e)) (among_left (waits q) (v ∷ []) i h)
        | inr e ↦ subst (λ ws. Among ws i) (sym (was q e)) h
      ]

  stand_ready : (todo : List Waiting) (left : List ℕ) (ready new : ℕ → Option Waiting) (waits : ℕ → List Waiting) (w v : Waiting) → IsPlaced g all order v → ((i : ℕ) → Has w.members i → Has v.members i) → ((d : ℕ) → ¬ Has v.waits d) → MadeReady executed ready v new → Stands g executed all order (todo ++ w ∷ []) left ready waits → Stands g executed all order todo left new waits
  stand_ready todo left ready new waits w v pv same clear (inl p) s = record {
    covers = λ i h. elim (s.covers i h) [
      | inl o ↦ inl o
      | inr (inl t) ↦ elim (among_split todo (w ∷ []) i t) [
        | inl a ↦ inr (inl a)
        | inr (inl m) ↦ absurd (p.0 i (same i m))
        | inr (inr b) ↦ absurd b
      ]
      | inr (inr (inl r)) ↦ inr (inr (inl (record { at = r.at; part = r.part; is = p.1 r.at ∙ r.is; has = r.has })))
      | inr (inr (inr k)) ↦ inr (inr (inr k))
    ];
    placed = all_front (IsPlaced g all order) todo w s.placed;
    first = λ x u e. s.first x u (sym (p.1 x) ∙ e);
    behind = s.behind;
  }
  stand_ready todo left ready new waits w v pv same clear (inr p) s = record {
    covers = λ i h. elim (s.covers i h) [
      | inl o ↦ inl o
      | inr (inl t) ↦ elim (among_split todo (w ∷ []) i t) [
        | inl a ↦ inr (inl a)
        | inr (inl m) ↦ inr (inr (inl (is_there i (same i m))))
        | inr (inr b) ↦ absurd b
      ]
      | inr (inr (inl r)) ↦ inr (inr (inl (elim (cases_Bool (eqb r.at x)) [
        | inl e ↦ (let f = s.first r.at r.part r.is in let k = priority_shared executed r.part.members v.members x (subst (λ y. IsPriority executed r.part.members (Some y)) (eqb-true r.at x e) f.priority) p.1 in is_there i (shared g r.part.members v.members k.0 i f.placed.comp pv.comp k.1 k.2 r.has))
        | inr e ↦ record { at = r.at; part = r.part; is = was r.at e ∙ r.is; has = r.has }
      ])))
      | inr (inr (inr k)) ↦ inr (inr (inr k))
    ];
    placed = all_front (IsPlaced g all order) todo w s.placed;
    first = λ q u f. elim (cases_Bool (eqb q x)) [
      | inl e ↦ (let is : v ≡ u = some_same v u (sym (now q e) ∙ f) in subst (λ y. IsFirst g executed all order y u) (sym (eqb-true q x e)) (subst (IsFirst g executed all order x) is (record { placed = pv; priority = p.1; clear = clear })))
      | inr e ↦ s.first q u (sym (was q e) ∙ f)
    ];
    behind = s.behind;
  }
    where
      x : ℕ
      x = p.0

      now : (q : ℕ) → eqb q x ≡ true → new q ≡ Some v
      now q e = p.2 q ∙ ap (λ b. cond b (Some v) (ready q)) e

      was : (q : ℕ) → eqb q x ≡ false → new q ≡ ready q
      was q e = p.2 q ∙ ap (λ b. cond b (Some v) (ready q)) e

      is_there : (i : ℕ) → Has v.members i → IsInReady new i
      is_there i h = record { at = x; part = v; is = now x (eq-eqb x x refl); has = h }

  -- a look at a component
  pub looked_wait : (todo : List Waiting) (left : List ℕ) (ready : ℕ → Option Waiting) (waits new : ℕ → List Waiting) (w v : Waiting) (d : ℕ) → v ≡ with_passed order w → first_of v.waits ≡ Some d → WaitsMore waits d v new → Stands g executed all order (todo ++ w ∷ []) left ready waits → Stands g executed all order todo left ready new
  looked_wait todo left ready waits new w v d is f more s = stand_wait todo left ready waits new w v d
      (subst (IsPlaced g all order) (sym is) (placed_passed g all order w (all_last (IsPlaced g all order) todo w s.placed)))
      (λ i h. subst (λ (u : Waiting). Has u.members i) (sym is) h)
      (first_has v.waits d f)
      (passed_first order w.waits d (ap (λ (u : Waiting). first_of u.waits) (sym is) ∙ f))
      more s

  pub looked_ready : (todo : List Waiting) (left : List ℕ) (ready new : ℕ → Option Waiting) (waits : ℕ → List Waiting) (w v : Waiting) → v ≡ with_passed order w → first_of v.waits ≡ None → MadeReady executed ready v new → Stands g executed all order (todo ++ w ∷ []) left ready waits → Stands g executed all order todo left new waits
  looked_ready todo left ready new waits w v is f made s = stand_ready todo left ready new waits w v
      (subst (IsPlaced g all order) (sym is) (placed_passed g all order w (all_last (IsPlaced g all order) todo w s.placed)))
      (λ i h. subst (λ (u : Waiting). Has u.members i) (sym is) h)
      (λ d. first_lacks v.waits d f)
      made s

  -- those that wait for an instance of the order are taken
  pub woken : (m : ℕ) (left : List ℕ) (ready : ℕ → Option Waiting) (waits new : ℕ → List Waiting) (parts : List Waiting) → parts ≡ waits m → ((q : ℕ) → new q ≡ cond (eqb q m) [] (waits q)) → Stands g executed all order [] (m ∷ left) ready waits → Stands g executed all order parts left ready new
  woken m left ready waits new parts is rest s = record {
    covers = λ i h. elim (s.covers i h) [
      | inl o ↦ inl o
      | inr (inl t) ↦ absurd t
      | inr (inr (inl r)) ↦ inr (inr (inl r))
      | inr (inr (inr k)) ↦ elim (cases_Bool (eqb k.at m)) [
        | inl e ↦ inr (inl (subst (λ ws. Among ws i) (ap waits (eqb-true k.at m e) ∙ sym is) k.has))
        | inr e ↦ inr (inr (inr (record { at = k.at; has = subst (λ ws. Among ws i) (sym (was k.at e)) k.has })))
      ]
    ];
    placed = subst (AllByRecursion (IsPlaced g all order)) (sym is) (all_map (IsBehind g all order (m ∷ left) m) (IsPlaced g all order) (waits m) (λ w b. b.placed) (s.behind m));
    first = s.first;
    behind = λ q. elim (cases_Bool (eqb q m)) [
      | inl e ↦ subst (AllByRecursion (IsBehind g all order left q)) (sym (rest q ∙ ap (λ b. cond b [] (waits q)) e)) tt
      | inr e ↦ subst (AllByRecursion (IsBehind g all order left q)) (sym (was q e)) (all_map (IsBehind g all order (m ∷ left) q) (IsBehind g all order left q) (waits q) (λ w b. record {
        placed = b.placed;
        waits_for = b.waits_for;
        still = elim b.still [
          | inl n ↦ inl n
          | inr h ↦ elim (has_cons m q left h) [ inl k ↦ absurd (false≢true (sym e ∙ eq-eqb q m (sym k))) | inr k ↦ inr k ]
        ];
      }) (s.behind q))
    ];
  }
    where
      was : (q : ℕ) → eqb q m ≡ false → new q ≡ waits q
      was q e = rest q ∙ ap (λ b. cond b [] (waits q)) e

  module _ (ready : ℕ → Option Waiting) (waits : ℕ → List Waiting) (s : Stands g executed all order [] [] ready waits) where
    -- the component of the least priority is finished
    pub stand_next : (w : Waiting) (new : ℕ → Option Waiting) (t : Takes ready (Some w) new) → Stands g executed all (order ++ w.members) [] w.members new waits
    stand_next w new t = record {
      covers = λ i h. elim (s.covers i h) [
        | inl o ↦ inl (has_left order w.members i o)
        | inr (inl k) ↦ absurd k
        | inr (inr (inl r)) ↦ elim (cases_Bool (eqb r.at x)) [
          | inl e ↦ (let same : r.part ≡ w = some_same r.part w (sym r.is ∙ ap ready (eqb-true r.at x e) ∙ t.1) in inl (has_right order w.members i (subst (λ (u : Waiting). Has u.members i) same r.has)))
          | inr e ↦ inr (inr (inl (record { at = r.at; part = r.part; is = was r.at e ∙ r.is; has = r.has })))
        ]
        | inr (inr (inr k)) ↦ inr (inr (inr k))
      ];
      placed = tt;
      first = λ q u f. elim (cases_Bool (eqb q x)) [
        | inl e ↦ absurd (none_some u (sym (t.2 q ∙ ap (λ b. cond b None (ready q)) e) ∙ f))
        | inr e ↦ (let o = s.first q u (sym (was q e) ∙ f) in record {
          placed = placed_later g all order w.members u o.placed (λ i h k. other q u o e i h k);
          priority = o.priority;
          clear = o.clear;
        })
      ];
      behind = λ d. all_map (IsBehind g all order [] d) (IsBehind g all (order ++ w.members) w.members d) (waits d) (λ u b. record {
        placed = placed_later g all order w.members u b.placed (λ i h k. waiting d u b i h k);
        waits_for = b.waits_for;
        still = elim (has_or w.members d) [
          | inl h ↦ inr h
          | inr n ↦ inl (λ k. elim (has_split order w.members d k) [ inl y ↦ closed d u b y | inr y ↦ n y ])
        ];
      }) (s.behind d);
    }
      where
        x : ℕ
        x = t.0

        mine : IsFirst g executed all order x w
        mine = s.first x w t.1

        was : (q : ℕ) → eqb q x ≡ false → new q ≡ ready q
        was q e = t.2 q ∙ ap (λ b. cond b None (ready q)) e

        -- another component that is ready shares none with this one
        other : (q : ℕ) (u : Waiting) → IsFirst g executed all order q u → eqb q x ≡ false → (i : ℕ) → Has u.members i → Has w.members i → ⊥
        other q u o e i h k =
            let same : q ≡ x = priority_same executed u.members w.members q x o.priority mine.priority (λ j m. shared g u.members w.members i j o.placed.comp mine.placed.comp h k m) (λ j m. shared g w.members u.members i j mine.placed.comp o.placed.comp k h m) in
            false≢true (sym e ∙ eq-eqb q x same)

        closed : (d : ℕ) (u : Waiting) → IsBehind g all order [] d u → Has order d → ⊥
        closed d u b h = elim b.still [ inl n ↦ n h | inr k ↦ omega arith ]

        -- nor does one that waits
        waiting : (d : ℕ) (u : Waiting) → IsBehind g all order [] d u → (i : ℕ) → Has u.members i → Has w.members i → ⊥
        waiting d u b i h k =
            let o = b.placed.outside d b.waits_for in
            elim (mine.placed.deps o.from d o.attrs (shared g u.members w.members i o.from b.placed.comp mine.placed.comp h k o.member) o.is o.dep) [
              | inl y ↦ o.apart (shared g w.members u.members i d mine.placed.comp b.placed.comp k h y)
              | inr (inl y) ↦ mine.clear d y
              | inr (inr y) ↦ closed d u b y
            ]

    -- what a component that is ready depends on
    clear_deps : (x : ℕ) (w : Waiting) → IsFirst g executed all order x w → (i d : ℕ) (a : Attrs) → Has w.members i → g i ≡ Some a → Has a.deps d → Has order d ⊎ Has w.members d
    clear_deps x w f i d a h e q = elim (f.placed.deps i d a h e q) [
      | inl k ↦ inr k
      | inr (inl k) ↦ absurd (f.clear d k)
      | inr (inr k) ↦ inl k
    ]

    -- fewer are left
    pub fewer_next : (w : Waiting) (new : ℕ → Option Waiting) → Takes ready (Some w) new → left_count (order ++ w.members) all < left_count order all
    fewer_next w new t =
        let f = s.first t.0 w t.1 in
        let i = priority_has executed w.members t.0 f.priority in
        left_falls order (order ++ w.members) all i.0 (λ j h. has_left order w.members j h) (f.placed.within i.0 i.1) (f.placed.apart i.0 i.1) (has_right order w.members i.0 i.1)

-- the order so far, and what is in finished components: what was executed of these, and the order
pub record IsOrdering (g : Graph) (executed : List ℕ) (root : ℕ) (order finished : List ℕ) : Type 0 where
  pub under_way : IsUnderWay g executed root order (executed ++ order)
  pub within : (i : ℕ) → Has order i → Has finished i
  pub done : (i : ℕ) → Has finished i → Has (executed ++ order) i
  pub sound : (i : ℕ) → Has finished i → AllDone g finished i

pub ordering_none : (g : Graph) (executed : List ℕ) (root : ℕ) → IsOrdering g executed root [] []
ordering_none g executed root = record {
  under_way = subst (IsUnderWay g executed root []) (sym (append-nil executed)) (under_way_none g executed root);
  within = λ i h. h;
  done = λ i h. absurd (omega arith);
  sound = λ i h. absurd (omega arith);
}

none_there : (xs : List ℕ) → ((i : ℕ) → ¬ Has xs i) → xs ≡ []
none_there [] n = refl
none_there (x ∷ xs) n = absurd (n x (Has-first x xs))

module _ (g : Graph) (executed : List ℕ) (root : ℕ) (all : List ℕ) (whole : (j : ℕ) → Has all j ↔ Reaches g root j) (order finished : List ℕ) (o : IsOrdering g executed root order finished) (ready : ℕ → Option Waiting) (waits : ℕ → List Waiting) (s : Stands g executed all finished [] [] ready waits) where
  -- what isn't finished reaches a component that is ready: the last one that it reaches and that isn't finished waits for none
  some_ready : (j : ℕ) → Has all j → ¬ Has finished j → ((m : ℕ) → Reaches g j m → IsInReady ready m → ⊥) → ⊥
  some_ready j h n k = some_last g j rest (λ m hm to last. elim (s.covers m ((whole m).1 (reach_trans from to))) [
    | inl d ↦ elim (has_cons j m rest hm) [ inl e ↦ n (subst (λ x. Has finished x) (sym e) d) | inr y ↦ out_then finished m (has_filter (is_out finished) all m y).1 d ]
    | inr (inl t) ↦ absurd t
    | inr (inr (inl r)) ↦ k m to r
    | inr (inr (inr w)) ↦ waiting m to last w
  ])
    where
      rest : List ℕ
      rest = filter (is_out finished) all

      from : Reaches g root j
      from = (whole j).0 h

      waiting : (m : ℕ) → Reaches g j m → ((i : ℕ) → Has (j ∷ rest) i → Reaches g m i → Reaches g i m) → IsInWaiting waits m → ⊥
      waiting m to last w =
          let f = among_all (IsBehind g all finished [] w.at) (waits w.at) m (s.behind w.at) w.has in
          let p = f.is.placed in
          let d = p.outside w.at f.is.waits_for in
          let on : Reaches g m w.at = onward d.attrs ((p.comp m d.from f.has).0 d.member).0 d.is d.dep in
          let left : ¬ Has finished w.at = elim f.is.still [ inl y ↦ y | inr y ↦ absurd (omega arith) ] in
          let there : Has rest w.at = filter_has (is_out finished) all w.at (out_yes finished w.at left) ((whole w.at).1 (reach_trans from (reach_trans to on))) in
          d.apart ((p.comp m w.at f.has).1 (on, last w.at (has_tail j w.at rest there) on))

  -- where none is ready, all is done
  pub ordering_all : (new : ℕ → Option Waiting) → Takes ready None new → IsListed g executed root order
  ordering_all new t = under_way_all g executed root order (executed ++ order) o.under_way (λ j r. o.done j (elim (has_or finished j) [
    | inl h ↦ h
    | inr n ↦ absurd (some_ready j ((whole j).1 r) n (λ m q i. none_some i.part (sym (t i.at) ∙ i.is)))
  ]))

  module _ (w : Waiting) (new : ℕ → Option Waiting) (t : Takes ready (Some w) new) where
    mine : IsFirst g executed all finished t.0 w
    mine = s.first t.0 w t.1

    -- none of a component that is ready is in the order
    not_yet : (x : ℕ) (u : Waiting) → IsFirst g executed all finished x u → (i : ℕ) → Has u.members i → ¬ Has executed i → ¬ Has (executed ++ order) i
    not_yet x u f i h n d = elim (has_split executed order i d) [ inl e ↦ n e | inr e ↦ f.placed.apart i h (o.within i e) ]

    module _ (first : ℕ) (least : IsLeast (λ j. ¬ Has executed j) w.members (Some first)) (is : t.0 ≡ first + 524288) where
      -- the least instance of a component that is ready isn't below it
      not_below : (j m : ℕ) → Reaches g j m → IsReady g (executed ++ order) j → IsInReady ready m → ¬ (j < first)
      not_below j m to r i lt = elim f.priority [
        | inl z ↦ (let y : ℕ = z.0 in let on : Reaches g j y = reach_trans to ((f.placed.comp m y i.has).0 z.1.0).0 in elim (r.clear y on) [
          | inl d ↦ not_yet i.at i.part f y z.1.0 z.1.1 d
          | inr b ↦ (let c : ¬ (j < y) = z.1.2 j ((f.placed.comp y j z.1.0).1 (b, on)) (λ e. r.left (has_left executed order j e)) in let at : i.at ≡ y + 524288 = z.2 in let after : ¬ (i.at < t.0) = t.3 i.at i.part i.is in omega arith)
        ])
        | inr z ↦ (let small : i.at < 524288 = z.0 in let after : ¬ (i.at < t.0) = t.3 i.at i.part i.is in omega arith)
      ]
        where
          f : IsFirst g executed all finished i.at i.part
          f = s.first i.at i.part i.is

      least_next : IsLeast (IsReady g (executed ++ order)) all (Some first)
      least_next = (
        mine.placed.within first least.0,
        record {
          left = not_yet t.0 w mine first least.0 least.1;
          clear = λ j r. elim (reached_in g finished finished w.members (clear_deps g executed all finished ready waits s t.0 w mine) o.sound least.0 r) [
            | inl m ↦ inr ((mine.placed.comp first j least.0).0 m).1
            | inr m ↦ inl (o.done j (m j itself))
          ];
        },
        λ j h r lt. some_ready j h (λ d. r.left (o.done j d)) (λ m to i. not_below j m to r i lt),
      )

    module _ (block : List ℕ) (made : block ≡ ranked_left_of g executed [] w.members) where
      -- what is left of the component
      some : (i : ℕ) × Has w.members i
      some = priority_has executed w.members t.0 mine.priority

      left : IsBlock g executed some.0 block
      left = subst (λ xs. IsBlock g executed some.0 xs) (sym made) (block_is g executed some.0 w.members mine.placed.comp some.1)

      left_then : (i : ℕ) → Has block i → Has w.members i × (¬ Has executed i)
      left_then i h = let m = (left.members i).0 h in ((mine.placed.comp some.0 i some.1).1 m.0, m.1)

      left_all : (i : ℕ) → Has w.members i → ¬ Has executed i → Has block i
      left_all i h n = (left.members i).1 ((mine.placed.comp some.0 i some.1).0 h, n)

      block_next : (first : ℕ) → Has w.members first → IsBlock g (executed ++ order) first block
      block_next first k = record {
        members = λ j. (
          λ h. (let m = left_then j h in ((mine.placed.comp first j k).0 m.0, not_yet t.0 w mine j m.0 m.1)),
          λ m. left_all j ((mine.placed.comp first j k).1 m.0) (λ e. m.1 (has_left executed order j e)),
        );
        rises = left.rises;
      }

      under_way_next : IsUnderWay g executed root (order ++ block) (executed ++ (order ++ block))
      under_way_next = elim mine.priority [
        | inl z ↦ subst (IsUnderWay g executed root (order ++ block)) (append_assoc executed order block)
            (under_way_more g executed root all order (executed ++ order) z.0 block whole o.under_way (least_next z.0 z.1 z.2) (block_next z.0 z.1.0))
        | inr z ↦ (let none : block ≡ [] = none_there block (λ i h. (let m = left_then i h in m.1 (z.2 i m.0))) in
            subst (λ (xs : List ℕ). IsUnderWay g executed root xs (executed ++ xs)) (sym (ap (λ (xs : List ℕ). order ++ xs) none ∙ append-nil order)) o.under_way)
      ]

      pub ordering_next : IsOrdering g executed root (order ++ block) (finished ++ w.members)
      ordering_next = record {
        under_way = under_way_next;
        within = λ i h. elim (has_split order block i h) [ inl k ↦ has_left finished w.members i (o.within i k) | inr k ↦ has_right finished w.members i (left_then i k).0 ];
        done = λ i h. elim (has_split finished w.members i h) [
          | inl k ↦ elim (has_split executed order i (o.done i k)) [ inl e ↦ has_left executed (order ++ block) i e | inr e ↦ has_right executed (order ++ block) i (has_left order block i e) ]
          | inr k ↦ elim (has_or executed i) [
            | inl e ↦ has_left executed (order ++ block) i e
            | inr n ↦ has_right executed (order ++ block) i (has_right order block i (left_all i k n))
          ]
        ];
        sound = λ i h j r. elim (has_split finished w.members i h) [
          | inl k ↦ has_left finished w.members j (o.sound i k j r)
          | inr k ↦ elim (reached_in g finished finished w.members (clear_deps g executed all finished ready waits s t.0 w mine) o.sound k r) [
            | inl m ↦ has_right finished w.members j m
            | inr m ↦ has_left finished w.members j (m j itself)
          ]
        ];
      }

-- The start.

placed_all : (g : Graph) (all : List ℕ) (cs : List (List ℕ)) → AllByRecursion (IsComponent g) cs → ((i : ℕ) → Has (flat_map (λ c. c) cs) i → Has all i) → AllByRecursion (IsPlaced g all []) (map (waiting_of g) cs)
placed_all g all [] h sub = tt
placed_all g all (c ∷ cs) h sub = (placed_first g all c h.0 (λ i k. sub i (has_left c (flat_map (λ c. c) cs) i k)), placed_all g all cs h.1 (λ i k. sub i (has_right c (flat_map (λ c. c) cs) i k)))

among_first : (g : Graph) (cs : List (List ℕ)) (i : ℕ) → Has (flat_map (λ c. c) cs) i → Among (map (waiting_of g) cs) i
among_first g [] i h = absurd (omega arith)
among_first g (c ∷ cs) i h = elim (has_split c (flat_map (λ c. c) cs) i h) [ inl k ↦ inl k | inr k ↦ inr (among_first g cs i k) ]

pub stand_first : (g : Graph) (executed : List ℕ) (root : ℕ) (cs : List (List ℕ)) → AreComponents g root cs → (ready : ℕ → Option Waiting) (waits : ℕ → List Waiting) → ((q : ℕ) → ready q ≡ None) → ((q : ℕ) → waits q ≡ []) → Stands g executed (flat_map (λ c. c) cs) [] (map (waiting_of g) cs) [] ready waits
stand_first g executed root cs ac ready waits r w = record {
  covers = λ i h. inr (inl (among_first g cs i h));
  placed = placed_all g (flat_map (λ c. c) cs) cs ac.each (λ i h. h);
  first = λ x u e. absurd (none_some u (sym (r x) ∙ e));
  behind = λ q. subst (AllByRecursion (IsBehind g (flat_map (λ c. c) cs) [] [] q)) (sym (w q)) tt;
}

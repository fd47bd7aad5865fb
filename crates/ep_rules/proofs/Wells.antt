-- Lists that are closed under reach and in execution order, and how executions make them.
use Rattle.std.proofs.Common.{◌≡◌, ◌≢◌, ℕ, suc, ◌<◌, ◌⊎◌, ◌↔◌, inl, inr, List, [], ◌∷◌, ◌++◌, length, Some, true, sym, ap, subst, ◌∙◌, arith, append-nil, append_assoc}
use Rattle.std.proofs.lemmas.Bool.{cases_order, le-leb, lt-leb, leb-true}
use Rattle.std.specs.List.{filter, flat_map}
use Rattle.std.proofs.lemmas.List.Elements.{filter-append}
use Rattle.ep_base.specs.declared.attrs.Attrs.{Attrs}
use Rattle.ep_base.specs.Places.{place, Has}
use Rattle.ep_rules.specs.Graph.{Graph, Reaches}
use Rattle.ep_rules.specs.Graph.Reaches.{itself, onward}
use Rattle.ep_rules.specs.Order.{seq_at, Ranks, Rises, Together, IsReady, IsNext, InBlocks, IsComplete, IsPlan}
use Rattle.ep_rules.proofs.Reaching.{reach_trans}
use Rattle.ep_rules.proofs.Places.{place_cons, place_head, place_le, has_or, not_has, place_inj, place-append_in, place-append_out, has_left, has_right, has_split, has_tail, Once, once-append, once_filter, has_filter, filter_has, filter_forth, filter_back, filter_none}
use Rattle.ep_base.specs.Commands.{Command}
use Rattle.ep_base.specs.Interference.{interfere}
use Rattle.ep_rules.specs.History.{Agrees, is_new, AreDependent, DependsOn}
use Rattle.ep_rules.proofs.Turns.{IsOrdered}
use Rattle.ep_rules.proofs.Ranks.{ranks_not, ranks_self, once_rises}

-- closed under reach, each once, dependencies first, and each component in its order
pub record Well (g : Graph) (l : List ℕ) : Type 0 where
  pub once : Once l
  pub committed : (i : ℕ) → Has l i → (a : Attrs) × (g i ≡ Some a)
  pub closed : (i j : ℕ) → Has l i → Reaches g i j → Has l j
  pub forward : (i j : ℕ) → Reaches g i j → place l i < place l j → Reaches g j i × Ranks g i j
  pub together : (i j : ℕ) → Has l i → Reaches g i j → Reaches g j i → Ranks g i j → place l i < place l j

pub well_nil : (g : Graph) → Well g []
well_nil g = record { once = tt; committed = λ i h. absurd (omega arith); closed = λ i j h r. h; forward = λ i j r lt. absurd (omega arith); together = λ i j h r b k. absurd (omega arith) }

-- a rising list's order is that of the ranks
rises_ranks : (g : Graph) (xs : List ℕ) (i j : ℕ) → Rises g xs → place xs i < place xs j → Has xs j → Ranks g i j
rises_ranks g [] i j rs lt h = absurd (omega arith)
rises_ranks g (x ∷ xs) i j rs lt h = go (place_cons x i xs) (place_cons x j xs) (rises_ranks g xs i j rs.1)
  where
    go : ((x ≡ i) × (place (x ∷ xs) i ≡ 0)) ⊎ (place (x ∷ xs) i ≡ suc (place xs i)) → ((x ≡ j) × (place (x ∷ xs) j ≡ 0)) ⊎ (place (x ∷ xs) j ≡ suc (place xs j)) → (place xs i < place xs j → Has xs j → Ranks g i j) → Ranks g i j
    go p (inl q) r = absurd (omega arith)
    go (inl p) (inr q) r = subst (λ y. Ranks g y j) p.0 (rs.0 j (omega arith))
    go (inr p) (inr q) r = r (omega arith) (omega arith)

rises_places : (g : Graph) (xs : List ℕ) (i j : ℕ) → Rises g xs → Has xs i → Has xs j → Ranks g i j → place xs i < place xs j
rises_places g xs i j rs hi hj k = elim (cases_order (place xs i) (place xs j)) [
  | inl e ↦ absurd (ranks_self g i (subst (λ y. Ranks g i y) (sym (place_inj xs i j hi e)) k))
  | inr (inl l) ↦ l
  | inr (inr l) ↦ absurd (ranks_not g i j k (rises_ranks g xs j i rs l hi))
]

-- one more block
module _ (g : Graph) (done block : List ℕ) (first : ℕ) (w : Well g done) (ready : IsReady g done first) (members : (j : ℕ) → Has block j ↔ (Together g first j × ¬ Has done j)) (rises : Rises g block) (have : (j : ℕ) → Has block j → (a : Attrs) × (g j ≡ Some a)) where
  own : (j : ℕ) → ¬ Has done j → Reaches g first j → Has block j
  own j nj r = (members j).1 ((r, elim (ready.clear j r) [ inl h ↦ absurd (nj h) | inr b ↦ b ]), nj)

  well_block : Well g (done ++ block)
  well_block = record {
    once = once-append done block w.once (once_rises g block rises) (λ i h k. ((members i).0 k).1 h);
    committed = λ i h. elim (has_split done block i h) [ inl k ↦ w.committed i k | inr k ↦ have i k ];
    closed = closed';
    forward = λ i j r lt. forward' i j r lt (has_or done i) (has_or done j);
    together = λ i j h r b k. together' i j h r b k (has_or done i) (has_or done j);
  }
    where
      closed' : (i j : ℕ) → Has (done ++ block) i → Reaches g i j → Has (done ++ block) j
      closed' i j h r = elim (has_split done block i h) [
        | inl hi ↦ has_left done block j (w.closed i j hi r)
        | inr hi ↦ elim (has_or done j) [ inl hj ↦ has_left done block j hj | inr nj ↦ has_right done block j (own j nj (reach_trans ((members i).0 hi).0.0 r)) ]
      ]

      in_block : (i : ℕ) → Has (done ++ block) i → ¬ Has done i → Has block i
      in_block i h ni = elim (has_split done block i h) [ inl k ↦ absurd (ni k) | inr k ↦ k ]

      forward' : (i j : ℕ) → Reaches g i j → place (done ++ block) i < place (done ++ block) j → (Has done i ⊎ (Has done i → ⊥)) → (Has done j ⊎ (Has done j → ⊥)) → Reaches g j i × Ranks g i j
      forward' i j r lt (inl hi) (inl hj) = w.forward i j r (omega (arith, place-append_in done block i hi, place-append_in done block j hj))
      forward' i j r lt (inl hi) (inr nj) = absurd (nj (w.closed i j hi r))
      forward' i j r lt (inr ni) (inl hj) = absurd (omega (arith, place-append_out done block i ni, place-append_in done block j hj))
      forward' i j r lt (inr ni) (inr nj) =
          let l : place block i < place block j = omega (arith, place-append_out done block i ni, place-append_out done block j nj) in
          let hi : Has block i = (let n = place_le block j in omega arith) in
          let hj : Has block j = own j nj (reach_trans ((members i).0 hi).0.0 r) in
          (reach_trans ((members j).0 hj).0.1 ((members i).0 hi).0.0, rises_ranks g block i j rises l hj)

      together' : (i j : ℕ) → Has (done ++ block) i → Reaches g i j → Reaches g j i → Ranks g i j → (Has done i ⊎ (Has done i → ⊥)) → (Has done j ⊎ (Has done j → ⊥)) → place (done ++ block) i < place (done ++ block) j
      together' i j h r b k (inl hi) (inl hj) = let l = w.together i j hi r b k in omega (arith, place-append_in done block i hi, place-append_in done block j hj)
      together' i j h r b k (inl hi) (inr nj) = absurd (nj (w.closed i j hi r))
      together' i j h r b k (inr ni) (inl hj) = absurd (ni (w.closed j i hj b))
      together' i j h r b k (inr ni) (inr nj) =
          let hi = in_block i h ni in
          let l = rises_places g block i j rises hi (own j nj (reach_trans ((members i).0 hi).0.0 r)) k in
          omega (arith, place-append_out done block i ni, place-append_out done block j nj)

-- what is reached at one replica is reached
up : {here all : Graph} {i j : ℕ} → Agrees here all → Reaches here i j → Reaches all i j
up ag itself = itself
up ag (onward {j = j} a r e h) = onward a (up ag r) (ag j a e) h

-- and the other way, where the replica has all that its root reaches
down : {here all : Graph} {root i j : ℕ} → Agrees here all → IsComplete here root → Reaches here root i → Reaches all i j → Reaches here i j
down ag full ri itself = itself
down {here} {all} {i = i} ag full ri (onward {j = j} {k = k} a r e h) = go (down ag full ri r)
  where
    go : Reaches here i j → Reaches here i k
    go s = let m = full j (reach_trans ri s) in
        let same : Some m.0 ≡ Some a = sym (ag j m.0 m.1) ∙ e in
        let one : m.0 ≡ a = cc in
        onward m.0 s m.1 (subst (λ (b : Attrs). Has b.deps k) (sym one) h)

-- the next block at a replica is the next one for all
module _ (here all : Graph) (ag : Agrees here all) (root : ℕ) (full : IsComplete here root) where
  same_seq : (i : ℕ) → Reaches here root i → seq_at (here i) ≡ seq_at (all i)
  same_seq i r = let m = full i r in ap seq_at (m.1 ∙ sym (ag i m.0 m.1))

  all_ranks : (i j : ℕ) → Reaches here root i → Reaches here root j → Ranks here i j → Ranks all i j
  all_ranks i j ri rj k =
      let a = same_seq i ri in
      let b = same_seq j rj in
      elim k [ inl l ↦ inl (omega arith) | inr l ↦ inr (omega arith, l.1) ]

  all_rises : (xs : List ℕ) → ((j : ℕ) → Has xs j → Reaches here root j) → Rises here xs → Rises all xs
  all_rises [] h rs = tt
  all_rises (x ∷ xs) h rs = (
    λ j k. all_ranks x j (h x (let e = place_head x xs in omega arith)) (h j (has_tail x j xs k)) (rs.0 j k),
    all_rises xs (λ j k. h j (has_tail x j xs k)) rs.1,
  )

  well_blocks : (done : List ℕ) (blocks : List (List ℕ)) → Well all done → InBlocks here done root blocks → Well all (done ++ flat_map (λ b. b) blocks)
  well_blocks done [] w h = rw append-nil w
  well_blocks done (block ∷ blocks) w h = subst (Well all) (append_assoc done block (flat_map (λ b. b) blocks)) (well_blocks (done ++ block) blocks (next h.0) h.1)
    where
      next : IsNext here done root block → Well all (done ++ block)
      next n = well_block all done block n.first w
          (record { left = n.ready.left; clear = λ j r. elim (n.ready.clear j (down ag full n.reached r)) [ inl k ↦ inl k | inr b ↦ inr (up ag b) ] })
          (λ j. (
            λ k. let m = (n.is.members j).0 k in ((up ag m.0.0, up ag m.0.1), m.1),
            λ m. let f = down ag full n.reached m.0.0 in (n.is.members j).1 ((f, down ag full (reach_trans n.reached f) m.0.1), m.1),
          ))
          (all_rises block (λ j k. reach_trans n.reached ((n.is.members j).0 k).0.0) n.is.rises)
          (λ j k. let m = full j (reach_trans n.reached ((n.is.members j).0 k).0.0) in (m.0, ag j m.0 m.1))

-- an execution keeps what was executed in order
pub well_plan : (here all : Graph) (done : List ℕ) (root : ℕ) (order : List ℕ) → Agrees here all → Well all done → IsPlan here done root order → Well all (done ++ order)
well_plan here all done root order ag w (inl p) = rw p.1 (rw append-nil w)
well_plan here all done root order ag w (inr p) = rw p.1.1.1 (well_blocks here all ag root p.1.0 done p.1.1.0 w p.1.1.2)

-- two such lists, one after the other, without what comes again
module _ (g : Graph) (h d : List ℕ) (wh : Well g h) (wd : Well g d) where
  pub new_yes : (i : ℕ) → ¬ Has h i → is_new h i ≡ true
  new_yes i n = let e = not_has h i n in le-leb (length h) (place h i) (omega arith)

  new_then : (i : ℕ) → is_new h i ≡ true → ¬ Has h i
  new_then i e k = let l = leb-true (length h) (place h i) e in omega arith

  abbrev news : List ℕ
  news = filter (is_new h) d

  pub well_merge : Well g (h ++ filter (is_new h) d)
  well_merge = record {
    once = once-append h news wh.once (once_filter (is_new h) d wd.once) (λ i k n. new_then i (has_filter (is_new h) d i n).1 k);
    committed = λ i k. elim (has_split h news i k) [ inl a ↦ wh.committed i a | inr a ↦ wd.committed i (has_filter (is_new h) d i a).0 ];
    closed = closed';
    forward = λ i j r lt. forward' i j r lt (has_or h i) (has_or h j);
    together = λ i j k r b q. together' i j k r b q (has_or h i) (has_or h j);
  }
    where
      in_d : (i : ℕ) → Has (h ++ news) i → ¬ Has h i → Has d i
      in_d i k n = elim (has_split h news i k) [ inl a ↦ absurd (n a) | inr a ↦ (has_filter (is_new h) d i a).0 ]

      closed' : (i j : ℕ) → Has (h ++ news) i → Reaches g i j → Has (h ++ news) j
      closed' i j k r = elim (has_or h i) [
        | inl hi ↦ has_left h news j (wh.closed i j hi r)
        | inr ni ↦ elim (has_or h j) [ inl hj ↦ has_left h news j hj | inr nj ↦ has_right h news j (filter_has (is_new h) d j (new_yes j nj) (wd.closed i j (in_d i k ni) r)) ]
      ]

      forward' : (i j : ℕ) → Reaches g i j → place (h ++ news) i < place (h ++ news) j → (Has h i ⊎ (Has h i → ⊥)) → (Has h j ⊎ (Has h j → ⊥)) → Reaches g j i × Ranks g i j
      forward' i j r lt (inl hi) (inl hj) = wh.forward i j r (omega (arith, place-append_in h news i hi, place-append_in h news j hj))
      forward' i j r lt (inl hi) (inr nj) = absurd (nj (wh.closed i j hi r))
      forward' i j r lt (inr ni) (inl hj) = absurd (omega (arith, place-append_out h news i ni, place-append_in h news j hj))
      forward' i j r lt (inr ni) (inr nj) =
          let l : place news i < place news j = omega (arith, place-append_out h news i ni, place-append_out h news j nj) in
          let hi : Has news i = (let n = place_le news j in omega arith) in
          wd.forward i j r (filter_back (is_new h) d i j (new_yes i ni) (new_yes j nj) (has_filter (is_new h) d i hi).0 l)

      together' : (i j : ℕ) → Has (h ++ news) i → Reaches g i j → Reaches g j i → Ranks g i j → (Has h i ⊎ (Has h i → ⊥)) → (Has h j ⊎ (Has h j → ⊥)) → place (h ++ news) i < place (h ++ news) j
      together' i j k r b q (inl hi) (inl hj) = let l = wh.together i j hi r b q in omega (arith, place-append_in h news i hi, place-append_in h news j hj)
      together' i j k r b q (inl hi) (inr nj) = absurd (nj (wh.closed i j hi r))
      together' i j k r b q (inr ni) (inl hj) = absurd (ni (wh.closed j i hj b))
      together' i j k r b q (inr ni) (inr nj) =
          let l = filter_forth (is_new h) d i j (new_yes i ni) (new_yes j nj) (wd.together i j (in_d i k ni) r b q) in
          omega (arith, place-append_out h news i ni, place-append_out h news j nj)

-- what was there already adds nothing
pub same_news : (h old new : List ℕ) → ((i : ℕ) → Has old i → Has h i) → filter (is_new h) (old ++ new) ≡ filter (is_new h) new
same_news h old new sub =
    filter-append (is_new h) old new ∙ ap (λ xs. xs ++ filter (is_new h) new) (filter_none (is_new h) old (λ i k. lt-leb (length h) (place h i) (sub i k)))

-- two such lists have one order of each pair that depends on one another
pub same_order : (g : Graph) (l m : List ℕ) → Well g l → Well g m → (i j : ℕ) → Has m i → Has l j → Reaches g i j ⊎ Reaches g j i → place l i < place l j → place m i < place m j
same_order g l m wl wm i j hi hj (inl r) lt = let f = wl.forward i j r lt in wm.together i j hi r f.0 f.1
same_order g l m wl wm i j hi hj (inr r) lt = elim (cases_order (place m i) (place m j)) [
  | inl e ↦ absurd (omega (arith, ap (place l) (place_inj m i j hi e)))
  | inr (inl k) ↦ k
  | inr (inr k) ↦ (let f = wm.forward j i r k in let b = wl.together j i hj r f.0 f.1 in absurd (omega arith))
]

-- what stands before in the one list, and depends, is in the other
pub has_before : (g : Graph) (l m : List ℕ) → Well g l → Well g m → (i j : ℕ) → Has l i → Reaches g i j ⊎ Reaches g j i → place m j < place m i → Has l j
has_before g l m wl wm i j hi (inl r) lt = wl.closed i j hi r
has_before g l m wl wm i j hi (inr r) lt = wl.closed i j hi (wm.forward j i r lt).0

-- interfering commands are linked by reach, so that two such lists order them alike
module _ (g : Graph) (c : ℕ → Command) (dep : AreDependent g c) where
  depends : (i j : ℕ) → DependsOn g i j → Reaches g i j
  depends i j d = onward d.0 itself d.1 d.2

  pub linked : (i j : ℕ) → i ≢ j → (a : Attrs) × (g i ≡ Some a) → (a : Attrs) × (g j ≡ Some a) → interfere (c i) (c j) ≡ true → Reaches g i j ⊎ Reaches g j i
  linked i j ne a b h = elim (dep i j a.0 b.0 ne a.1 b.1 h) [ inl d ↦ inl (depends i j d) | inr d ↦ inr (depends j i d) ]

  before_both : (l m : List ℕ) → Well g l → Well g m → (u w : ℕ) → Has l w → Has m w → interfere (c u) (c w) ≡ true → place l u < place l w → place m u < place m w
  before_both l m wl wm u w hl hm e lt =
      let hu : Has l u = omega arith in
      let ne : u ≢ w = (λ s. let q = ap (place l) s in absurd (omega arith)) in
      let link = linked u w ne (wl.committed u hu) (wl.committed w hl) e in
      let hm' : Has m u = has_before g m l wm wl w u hm (elim link [ inl r ↦ inr r | inr r ↦ inl r ]) lt in
      same_order g l m wl wm u w hm' hl link lt

  pub well_ordered : (l m : List ℕ) → Well g l → Well g m → IsOrdered (λ u w. interfere (c u) (c w)) l m
  well_ordered l m wl wm u w hl hm e = (before_both l m wl wm u w hl hm e, before_both m l wm wl u w hm hl e)

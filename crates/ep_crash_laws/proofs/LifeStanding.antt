-- What stands of a life whose nodes crash: who has opened what, and which of a node's entries.
use Rattle.std.proofs.Common.{◌≡◌, ℕ, suc, ◌+◌, ◌≤◌, Bool, true, false, ◌&&◌, cond, eqb, ltb, inl, inr, List, [], ◌∷◌, ◌++◌, length, take, refl, sym, ap, subst, ◌∙◌, arith, append_assoc}
use Rattle.std.proofs.lemmas.Bool.{eq-eqb, eqb-true, ne_eqb, cases_eq, cases_lt, false≢true, and_parts}
use Rattle.std.proofs.lemmas.List.{take-take, take_all, length-take}
use Rattle.ep_rules.specs.Generations.{Steps, Life, lived}
use Rattle.ep_rules.specs.Journals.{Entry, AreNumbered, Scheduled, of, act_of}
use Rattle.ep_rules.specs.Worlds.{In}
use Rattle.ep_node.specs.Crashes.{Cluster, Take, HandOut, ComeBack, moved, with_at, without, is_beyond, standing}
use Rattle.ep_node.specs.CrashLives.{Generations, LifeMove, Within, OpensNext, after_move, AreLifeMoves, life_after, Stood, Took, Opened, is_lost, stand_on, taken_in, turn_of, turns_of}
use Rattle.ep_node.proofs.CrashLives.{has_over, has_kept, lived_over, has_after, Same, same_after, out_on}
use Rattle.ep_node.proofs.CrashMoves.{numbered_take}
use Rattle.ep_node.proofs.CrashOrders.{without_both, low, low_take}
use Rattle.ep_crash_laws.specs.CrashLifeReads.{outlast}
use Rattle.ep_crash_laws.proofs.Standing.{Parts}

-- Two lists, one after the other.

pub turns_both : (xs ys : List Stood) → turns_of (xs ++ ys) ≡ turns_of xs ++ turns_of ys
turns_both [] ys = refl
turns_both (x ∷ xs) ys = ap (λ ts. turn_of x ∷ ts) (turns_both xs ys)

stand_both : (m : LifeMove) (xs ys : List Stood) → stand_on m (xs ++ ys) ≡ outlast m xs ++ stand_on m ys
stand_both (Within g (Take r e)) xs ys = append_assoc xs ys (Took g (record { replica = r; entry = e }) ∷ [])
stand_both (Within g (HandOut r n)) xs ys = refl
stand_both (Within g (ComeBack r n)) xs ys = without_both (is_lost g r n) xs ys
stand_both (OpensNext g r q base_stamp) xs ys = append_assoc xs ys (Opened g r q ∷ [])

outlast_both : (m : LifeMove) (xs ys : List Stood) → outlast m (xs ++ ys) ≡ outlast m xs ++ outlast m ys
outlast_both (Within g (Take r e)) xs ys = refl
outlast_both (Within g (HandOut r n)) xs ys = refl
outlast_both (Within g (ComeBack r n)) xs ys = without_both (is_lost g r n) xs ys
outlast_both (OpensNext g r q base_stamp) xs ys = refl

pub are_parts : Parts stand_on outlast
are_parts = record { both = stand_both; outlast_both = outlast_both }

-- Acts and turns.

pub taken_turn : (g : ℕ) (a : Scheduled) (xs : List Stood) → In a (taken_in g xs) → In (Steps g (act_of a)) (turns_of xs)
taken_turn g a [] k = absurd k
taken_turn g a (Opened h r q ∷ xs) k = inr (taken_turn g a xs k)
taken_turn g a (Took h b ∷ xs) k = go (eqb h g) refl k (taken_turn g a xs)
  where
    go : (t : Bool) → eqb h g ≡ t → In a (cond t (b ∷ taken_in g xs) (taken_in g xs)) → (In a (taken_in g xs) → In (Steps g (act_of a)) (turns_of xs)) → In (Steps g (act_of a)) (turns_of (Took h b ∷ xs))
    go true e (inl is) rec = inl (ap (λ k. Steps k (act_of b)) (eqb-true h g e) ∙ ap (λ z. Steps g (act_of z)) is)
    go true e (inr m) rec = inr (rec m)
    go false e m rec = inr (rec m)

-- Who has opened what.

opened_outlast : (o : ℕ → ℕ → Bool) (m : LifeMove) (xs : List Stood) → has_over o (outlast m xs) ≡ has_over o xs
opened_outlast o (Within g (Take r e)) xs = refl
opened_outlast o (Within g (HandOut r n)) xs = refl
opened_outlast o (Within g (ComeBack r n)) xs = has_kept g r n o xs
opened_outlast o (OpensNext g r q base_stamp) xs = refl

opened_outlasts : (o : ℕ → ℕ → Bool) (ms : List LifeMove) (xs : List Stood) → has_over o (standing outlast xs ms) ≡ has_over o xs
opened_outlasts o [] xs = refl
opened_outlasts o (m ∷ ms) xs = opened_outlasts o ms (outlast m xs) ∙ opened_outlast o m xs

-- no crash takes an opening
pub opened_still : (f : ℕ → ℕ) (l : Life) (first : Generations) (early late : List LifeMove) → l.has_opened ≡ first.has_opened →
    (lived f l (turns_of (standing outlast (standing stand_on [] early) late))).has_opened ≡ (life_after f first early).has_opened
opened_still f l first early late is =
    lived_over f l (standing outlast (standing stand_on [] early) late)
    ∙ opened_outlasts l.has_opened late (standing stand_on [] early)
    ∙ has_after f first early l.has_opened [] is

-- Moves, one after the other.

pub moves_parts : (f : ℕ → ℕ) (early late : List LifeMove) (l : Generations) → AreLifeMoves f l (early ++ late) → AreLifeMoves f l early × AreLifeMoves f (life_after f l early) late
moves_parts f [] late l k = (tt, k)
moves_parts f (m ∷ early) late l k = let t = moves_parts f early late (after_move f l m) k.1 in ((k.0, t.0), t.1)

pub after_both : (f : ℕ → ℕ) (early late : List LifeMove) (l : Generations) → life_after f l (early ++ late) ≡ life_after f (life_after f l early) late
after_both f [] late l = refl
after_both f (m ∷ early) late l = after_both f early late (after_move f l m)

-- what a generation was opened with stays
pub map_stays : (f : ℕ → ℕ) (l : Generations) (ms : List LifeMove) → AreLifeMoves f l ms → (g r : ℕ) → l.has_opened g r ≡ true →
    ((life_after f l ms).has_opened g r ≡ true) × ((life_after f l ms).map g r ≡ l.map g r)
map_stays f l ms k g r is = let s : Same l (life_after f l ms) g r = same_after f l ms k g r is in (s.has, s.map)

-- what was handed out of only grows
pub out_grows : (f : ℕ → ℕ) (l : Generations) (ms : List LifeMove) → AreLifeMoves f l ms → (g r : ℕ) → (l.cluster g).out r ≤ ((life_after f l ms).cluster g).out r
out_grows f l [] k g r = omega arith
out_grows f l (m ∷ ms) k g r =
    let now = out_on f l m k.0 g r in
    let rest = out_grows f (after_move f l m) ms k.1 g r in
    omega arith

-- The entries of one node that outlast moves.

module _ (g q h r n : ℕ) where
  abbrev cut : List Stood → List Stood
  cut xs = without (is_lost h r n) xs

  abbrev mine : List Stood → List Entry
  mine xs = of q (taken_in g xs)

  -- whether it is this node that crashes
  abbrev here : Bool
  here = eqb h g && eqb r q

  abbrev fewer : List Entry → List Entry
  fewer es = cond here (low n es) es

  fewer_more : (e : Entry) (es : List Entry) → (here ≡ true → ltb n e.number ≡ false) → fewer (e ∷ es) ≡ e ∷ fewer es
  fewer_more e es keeps = go here keeps
    where
      go : (b : Bool) → (b ≡ true → ltb n e.number ≡ false) → cond b (low n (e ∷ es)) (e ∷ es) ≡ e ∷ cond b (low n es) es
      go true k = ap (λ z. cond z (low n es) (e ∷ low n es)) (k refl)
      go false k = refl

  fewer_lost : (e : Entry) (es : List Entry) → here ≡ true → ltb n e.number ≡ true → fewer (e ∷ es) ≡ fewer es
  fewer_lost e es is lost = ap (λ b. cond b (low n (e ∷ es)) (e ∷ es)) is ∙ ap (λ z. cond z (low n es) (e ∷ low n es)) lost ∙ sym (ap (λ b. cond b (low n es) es) is)

  -- an entry of this node
  own : (a : Scheduled) (xs : List Stood) → a.replica ≡ q → mine (Took g a ∷ xs) ≡ a.entry ∷ mine xs
  own a xs e =
      ap (λ b. of q (cond b (a ∷ taken_in g xs) (taken_in g xs))) (eq-eqb g g refl)
      ∙ ap (λ b. cond b (a.entry ∷ mine xs) (mine xs)) (eq-eqb a.replica q e)

  -- an entry of another one
  other : (k : ℕ) (a : Scheduled) (xs : List Stood) → (k ≡ g → a.replica ≡ q → ⊥) → mine (Took k a ∷ xs) ≡ mine xs
  other k a xs ne = go (eqb k g) refl
    where
      go : (b : Bool) → eqb k g ≡ b → of q (cond b (a ∷ taken_in g xs) (taken_in g xs)) ≡ mine xs
      go true e = ap (λ b. cond b (a.entry ∷ mine xs) (mine xs)) (ne_eqb a.replica q (ne (eqb-true k g e)))
      go false e = refl

  cut_own : (a : Scheduled) (xs : List Stood) → a.replica ≡ q → mine (cut xs) ≡ fewer (mine xs) → mine (cond (eqb h g && is_beyond r n a) (cut xs) (Took g a ∷ cut xs)) ≡ fewer (a.entry ∷ mine xs)
  cut_own a xs is rec =
      let same : eqb a.replica r ≡ eqb r q = ap (λ z. eqb z r) is ∙ turn in
      go (eqb h g) (eqb r q) (ltb n a.entry.number) refl refl refl (subst (λ b. mine (cond (eqb h g && (b && ltb n a.entry.number)) (cut xs) (Took g a ∷ cut xs)) ≡ mine (cond (eqb h g && (eqb r q && ltb n a.entry.number)) (cut xs) (Took g a ∷ cut xs))) (sym same) refl)
    where
      turn : eqb q r ≡ eqb r q
      turn = elim (cases_eq q r) [ inl e ↦ eq-eqb q r e ∙ sym (eq-eqb r q (sym e)) | inr ne ↦ ne_eqb q r ne ∙ sym (ne_eqb r q (λ e. ne (sym e))) ]

      kept_one : (here ≡ true → ltb n a.entry.number ≡ false) → mine (Took g a ∷ cut xs) ≡ fewer (a.entry ∷ mine xs)
      kept_one k = own a (cut xs) is ∙ ap (λ es. a.entry ∷ es) rec ∙ sym (fewer_more a.entry (mine xs) k)

      go : (b c d : Bool) → eqb h g ≡ b → eqb r q ≡ c → ltb n a.entry.number ≡ d →
          mine (cond (eqb h g && is_beyond r n a) (cut xs) (Took g a ∷ cut xs)) ≡ mine (cond (eqb h g && (eqb r q && ltb n a.entry.number)) (cut xs) (Took g a ∷ cut xs)) →
          mine (cond (eqb h g && is_beyond r n a) (cut xs) (Took g a ∷ cut xs)) ≡ fewer (a.entry ∷ mine xs)
      go b c d eb ec ed first = first ∙ ap (λ z. mine (cond (z && (eqb r q && ltb n a.entry.number)) (cut xs) (Took g a ∷ cut xs))) eb
          ∙ ap (λ z. mine (cond (b && (z && ltb n a.entry.number)) (cut xs) (Took g a ∷ cut xs))) ec ∙ ap (λ z. mine (cond (b && (c && z)) (cut xs) (Took g a ∷ cut xs))) ed ∙ by b c d eb ec ed
        where
          by : (b c d : Bool) → eqb h g ≡ b → eqb r q ≡ c → ltb n a.entry.number ≡ d → mine (cond (b && (c && d)) (cut xs) (Took g a ∷ cut xs)) ≡ fewer (a.entry ∷ mine xs)
          by true true true eb ec ed = rec ∙ sym (fewer_lost a.entry (mine xs) (ap (λ z. z && eqb r q) eb ∙ ec) ed)
          by true true false eb ec ed = kept_one (λ t. ed)
          by true false d eb ec ed = kept_one (λ t. absurd (false≢true (sym (ap (λ z. z && eqb r q) eb ∙ ec) ∙ t)))
          by false c d eb ec ed = kept_one (λ t. absurd (false≢true (sym (ap (λ z. z && eqb r q) eb) ∙ t)))

  cut_other : (k : ℕ) (a : Scheduled) (xs : List Stood) → (k ≡ g → a.replica ≡ q → ⊥) → (b : Bool) → mine (cond b (cut xs) (Took k a ∷ cut xs)) ≡ mine (cut xs)
  cut_other k a xs ne true = refl
  cut_other k a xs ne false = other k a (cut xs) ne

  -- what a crash leaves of a node's entries
  cut_leaves : (xs : List Stood) → mine (cut xs) ≡ fewer (mine xs)
  cut_leaves [] = go here
    where
      go : (b : Bool) → mine [] ≡ cond b (low n (mine [])) (mine [])
      go true = refl
      go false = refl
  cut_leaves (Opened k p s ∷ xs) = cut_leaves xs
  cut_leaves (Took k a ∷ xs) = elim (cases_eq k g) [
    | inr ne ↦ elsewhere (λ e i. ne e) (cut_leaves xs)
    | inl e ↦ elim (cases_eq a.replica q) [
      | inr ne ↦ elsewhere (λ i. ne) (cut_leaves xs)
      | inl is ↦ subst (λ j. mine (cond (eqb h j && is_beyond r n a) (cut xs) (Took j a ∷ cut xs)) ≡ fewer (mine (Took j a ∷ xs))) (sym e)
          (cut_own a xs is (cut_leaves xs) ∙ ap fewer (sym (own a xs is)))
    ]
  ]
    where
      elsewhere : (k ≡ g → a.replica ≡ q → ⊥) → mine (cut xs) ≡ fewer (mine xs) → mine (cut (Took k a ∷ xs)) ≡ fewer (mine (Took k a ∷ xs))
      elsewhere ne rec = cut_other k a xs ne (eqb h k && is_beyond r n a) ∙ rec ∙ ap fewer (sym (other k a xs ne))

-- how many of its entries a node still has, of which it keeps at least so many
pub record Keeps (h : ℕ) (es left : List Entry) : Type 0 where
  pub count : ℕ
  pub least : h ≤ count
  pub is : left ≡ take count es

keeps_all : (h : ℕ) (es : List Entry) → Keeps h es es
keeps_all h es = record { count = h + length es; least = omega arith; is = sym (take_all (h + length es) es (omega arith)) }

keeps_fewer : (h n : ℕ) (es left : List Entry) → h ≤ n → Keeps h (take n es) left → Keeps h es left
keeps_fewer h n es left le k = elim (cases_lt k.count n) [
  | inl lt ↦ record { count = k.count; least = k.least; is = k.is ∙ take-take k.count n es (omega arith) }
  | inr ge ↦ record { count = n; least = le; is = k.is ∙ take_all k.count (take n es) (omega (arith, length-take n es, ge)) }
]

-- A node that has at least h entries at each point still has those.
pub outlasting : (f : ℕ → ℕ) (g q h : ℕ) (late : List LifeMove) (l : Generations) (xs : List Stood) → AreLifeMoves f l late → AreNumbered 1 0 (of q (taken_in g xs)) →
    ((n : ℕ) → h ≤ length (((life_after f l (take n late)).cluster g).journal q)) → Keeps h (of q (taken_in g xs)) (of q (taken_in g (standing outlast xs late)))
outlasting f g q h [] l xs are numbered low = keeps_all h (of q (taken_in g xs))
outlasting f g q h (Within k (Take r e) ∷ late) l xs are numbered low = outlasting f g q h late (after_move f l (Within k (Take r e))) xs are.1 numbered (λ n. low (suc n))
outlasting f g q h (Within k (HandOut r n) ∷ late) l xs are numbered low = outlasting f g q h late (after_move f l (Within k (HandOut r n))) xs are.1 numbered (λ m. low (suc m))
outlasting f g q h (OpensNext k r p base_stamp ∷ late) l xs are numbered low = outlasting f g q h late (after_move f l (OpensNext k r p base_stamp)) xs are.1 numbered (λ m. low (suc m))
outlasting f g q h (Within k (ComeBack r n) ∷ late) l xs are numbered low_at =
    crashed (low_at 1) (λ is. outlasting f g q h late (after_move f l (Within k (ComeBack r n))) (without (is_lost k r n) xs) are.1 is (λ m. low_at (suc m))) (eqb k g && eqb r q) refl
  where
    es : List Entry
    es = of q (taken_in g xs)

    now : List Entry
    now = of q (taken_in g (without (is_lost k r n) xs))

    end : List Entry
    end = of q (taken_in g (standing outlast (without (is_lost k r n) xs) late))

    least : h ≤ length ((with_at k (moved (l.cluster k) (ComeBack r n)) l.cluster g).journal q) → (eqb k g && eqb r q) ≡ true → h ≤ n
    least le e =
        let t = and_parts (eqb k g) (eqb r q) e in
        let at : h ≤ length ((moved (l.cluster k) (ComeBack r n)).journal q) =
        subst (λ (c : Cluster). h ≤ length (c.journal q)) (ap (λ b. cond b (moved (l.cluster k) (ComeBack r n)) (l.cluster g)) t.0) le in
        let few : h ≤ length (take n ((l.cluster k).journal r)) =
        subst (λ (js : List Entry). h ≤ length js) (ap (λ b. cond b (take n ((l.cluster k).journal r)) ((l.cluster k).journal q)) t.1) at in
        omega (arith, few, length-take n ((l.cluster k).journal r))

    crashed : h ≤ length ((with_at k (moved (l.cluster k) (ComeBack r n)) l.cluster g).journal q) → (AreNumbered 1 0 now → Keeps h now end) →
        (b : Bool) → (eqb k g && eqb r q) ≡ b → Keeps h es end
    crashed le rec true e =
        let is : now ≡ take n es = cut_leaves g q k r n xs ∙ ap (λ b. cond b (low n es) es) e ∙ low_take n 1 n 0 es numbered (omega arith) in
        keeps_fewer h n es end (least le e) (subst (λ was. Keeps h was end) is (rec (subst (AreNumbered 1 0) (sym is) (numbered_take n es numbered))))
    crashed le rec false e =
        let is : now ≡ es = cut_leaves g q k r n xs ∙ ap (λ b. cond b (low n es) es) e in
        subst (λ was. Keeps h was end) is (rec (subst (AreNumbered 1 0) (sym is) numbered))

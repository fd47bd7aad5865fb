-- A root of which all that it reaches is committed has a plan: block after block, a next one can be found.
use Rattle.std.proofs.Common.{◌≡◌, ℕ, zero, suc, ◌+◌, ◌<◌, ◌≤◌, ◌⊎◌, inl, inr, Bool, true, false, ◌&&◌, not, ltb, List, [], ◌∷◌, ◌++◌, length, Option, Some, None, refl, sym, subst, ◌∙◌, arith}
use Rattle.std.proofs.lemmas.Bool.{and_parts, and_from, and_cases, not-true, not_from_false, lt-ltb, ltb-true, false≢true, false_from_ne_true}
use Rattle.std.specs.List.{flat_map}
use Rattle.ep_base.specs.Places.{place, Has}
use Rattle.ep_base.proofs.Places.{Has-first}
use Rattle.ep_rules.specs.Counting.{least}
use Rattle.ep_rules.specs.Graph.{Graph, Reaches}
use Rattle.ep_rules.specs.Graph.Reaches.{itself}
use Rattle.ep_rules.specs.Order.{Together, IsReady, IsBlock, IsNext, InBlocks, IsComplete, IsPlan}
use Rattle.ep_rules.proofs.Counting.{FoundAt, least_some, least_none, least_before}
use Rattle.ep_rules.proofs.Places.{has_or, has_cons, has_tail, has_left, has_right}
use Rattle.ep_rules.proofs.Reaching.{reach_trans}
use Rattle.ep_laws.proofs.Ranking.{ranked, ranked_rises, ranked_only, ranked_has}
use Rattle.ep_laws.proofs.Reaching.{through, found, finds}
use Rattle.ep_laws.proofs.Searching.{one_or_none, passing, less}

-- it isn't done
abbrev left : List ℕ → ℕ → Bool
left done j = not (ltb (place done j) (length done))

left_not : (done : List ℕ) (j : ℕ) → left done j ≡ true → ¬ Has done j
left_not done j e h = absurd (false≢true (sym (not-true _ e) ∙ lt-ltb _ _ h))

not_left : (done : List ℕ) (j : ℕ) → ¬ Has done j → left done j ≡ true
not_left done j h = not_from_false _ (false_from_ne_true _ (λ e. h (ltb-true _ _ e)))

done_or : (done : List ℕ) (j : ℕ) → left done j ≡ false → Has done j
done_or done j e = elim (has_or done j) [ inl h ↦ h | inr n ↦ absurd (false≢true (sym e ∙ not_left done j n)) ]

-- whether something passes
abbrev nobody : (ℕ → Bool) → List ℕ → Bool
nobody p [] = true
nobody p (x ∷ xs) = not (p x) && nobody p xs

nobody_at : (p : ℕ → Bool) (xs : List ℕ) → nobody p xs ≡ true → (j : ℕ) → Has xs j → p j ≡ false
nobody_at p [] e j h = absurd (omega arith)
nobody_at p (x ∷ xs) e j h =
    let t = and_parts (not (p x)) (nobody p xs) e in
    elim (has_cons x j xs h) [ inl is ↦ subst (λ k. p k ≡ false) is (not-true _ t.0) | inr there ↦ nobody_at p xs t.1 j there ]

nobody_from : (p : ℕ → Bool) (xs : List ℕ) → ((j : ℕ) → Has xs j → p j ≡ false) → nobody p xs ≡ true
nobody_from p [] h = refl
nobody_from p (x ∷ xs) h = and_from _ _ (not_from_false _ (h x (Has-first x xs))) (nobody_from p xs (λ j k. h j (has_tail x j xs k)))

-- All that the root reaches is among the instances ks.
module _ (g : Graph) (ks : List ℕ) (root : ℕ) (all : (j : ℕ) → Reaches g root j → Has ks j) where
  abbrev goes : ℕ → ℕ → Bool
  goes i j = through g ks i j

  goes_if : (i j : ℕ) → Reaches g root i → Reaches g i j → goes i j ≡ true
  goes_if i j r h = finds g ks i j (λ k t. all k (reach_trans r t)) h

  module _ (done : List ℕ) where
    -- j isn't done, and keeps i from being ready
    abbrev before : ℕ → ℕ → Bool
    before i j = left done j && (goes i j && not (goes j i))

    clear_of : (i : ℕ) → Reaches g root i → ((j : ℕ) → Has ks j → before i j ≡ false) → (j : ℕ) → Reaches g i j → Has done j ⊎ Reaches g j i
    clear_of i r none j h = elim (and_cases (left done j) _ (none j (all j (reach_trans r h)))) [
      | inl e ↦ inl (done_or done j e)
      | inr e ↦ elim (and_cases (goes i j) _ e) [
        | inl never ↦ absurd (false≢true (sym never ∙ goes_if i j r h))
        | inr back ↦ inr (found g ks j i (go (goes j i) back))
      ]
    ]
      where
        go : (b : Bool) → not b ≡ false → b ≡ true
        go true e = refl
        go false e = absurd (false≢true (sym e))

    ready_if : (i : ℕ) → Reaches g root i → ¬ Has done i → ((j : ℕ) → Has ks j → before i j ≡ false) → IsReady g done i
    ready_if i r not none = record { left = not; clear = clear_of i r none }

    -- and whoever is ready is kept by none
    kept_by_none : (i : ℕ) → Reaches g root i → IsReady g done i → (j : ℕ) → before i j ≡ false
    kept_by_none i r ready j = false_from_ne_true _ (λ e.
        let p = and_parts (left done j) _ e in
        let q = and_parts (goes i j) _ p.1 in
        let h : Reaches g i j = found g ks i j q.0 in
        elim (ready.clear j h) [
          | inl is ↦ left_not done j p.0 is
          | inr back ↦ absurd (false≢true (sym (not-true _ q.1) ∙ goes_if j i (reach_trans r h) back))
        ])

    -- Of what is left, one is ready: whoever is kept by another reaches more than that one.

    abbrev Ready : Type 0
    Ready = (i : ℕ) × Reaches g root i × IsReady g done i

    abbrev Kept : ℕ → Type 0
    Kept i = (j : ℕ) × Has ks j × (before i j ≡ true)

    reaches_less : (i : ℕ) → Reaches g root i → (t : Kept i) → passing (goes t.0) ks + 1 ≤ passing (goes i) ks
    reaches_less i r t =
        let q = and_parts (goes i t.0) _ (and_parts (left done t.0) _ t.2).1 in
        less (goes t.0) (goes i) ks (λ z h e. goes_if i z r (reach_trans (found g ks i t.0 q.0) (found g ks t.0 z e))) i (all i r) (not-true _ q.1) (goes_if i i r itself)

    one_ready : (n i : ℕ) → Reaches g root i → ¬ Has done i → passing (goes i) ks ≤ n → Ready
    one_ready zero i r not few = elim (one_or_none (before i) ks) [
      | inl t ↦ (let l = reaches_less i r t in absurd (omega arith))
      | inr none ↦ (i, r, ready_if i r not none)
    ]
    one_ready (suc n) i r not few = go (one_ready n) (one_or_none (before i) ks)
      where
        go : ((j : ℕ) → Reaches g root j → ¬ Has done j → passing (goes j) ks ≤ n → Ready) → Kept i ⊎ ((j : ℕ) → Has ks j → before i j ≡ false) → Ready
        go rec (inr none) = (i, r, ready_if i r not none)
        go rec (inl t) =
            let p = and_parts (left done t.0) _ t.2 in
            let h : Reaches g i t.0 = found g ks i t.0 (and_parts (goes i t.0) _ p.1).0 in
            rec t.0 (reach_trans r h) (left_not done t.0 p.0) (let l = reaches_less i r t in omega arith)

    -- The least of those that are ready.

    abbrev is_ready : ℕ → Bool
    is_ready i = goes root i && (left done i && nobody (before i) ks)

    ready_found : (i : ℕ) → is_ready i ≡ true → Reaches g root i × IsReady g done i
    ready_found i e =
        let p = and_parts (goes root i) _ e in
        let q = and_parts (left done i) _ p.1 in
        let r : Reaches g root i = found g ks root i p.0 in
        (r, ready_if i r (left_not done i q.0) (nobody_at (before i) ks q.1))

    found_ready : (i : ℕ) → Reaches g root i → IsReady g done i → is_ready i ≡ true
    found_ready i r ready = and_from _ _ (goes_if root i itself r) (and_from _ _ (not_left done i ready.left) (nobody_from (before i) ks (λ j h. kept_by_none i r ready j)))

    abbrev Least : Type 0
    Least = (i : ℕ) × Reaches g root i × IsReady g done i × ((j : ℕ) → Reaches g root j → IsReady g done j → ¬ (j < i))

    least_ready : Ready → Least
    least_ready t = go (least (suc t.0) is_ready) refl
      where
        go : (o : Option ℕ) → least (suc t.0) is_ready ≡ o → Least
        go None e = absurd (false≢true (sym (least_none (suc t.0) is_ready e t.0 (omega arith)) ∙ found_ready t.0 t.1 t.2))
        go (Some k) e =
            let at : FoundAt (suc t.0) is_ready k = least_some (suc t.0) is_ready k e in
            let is = ready_found k at.1 in
            (k, is.0, is.1, λ j r ready lt. false≢true (sym (least_before (suc t.0) is_ready k e j lt) ∙ found_ready j r ready))

    -- Its block.

    abbrev beside : ℕ → ℕ → Bool
    beside first j = goes first j && (goes j first && left done j)

    abbrev block_of : ℕ → List ℕ
    block_of first = ranked g (beside first) ks

    beside_is : (first j : ℕ) → beside first j ≡ true → Together g first j × ¬ Has done j
    beside_is first j e =
        let p = and_parts (goes first j) _ e in
        let q = and_parts (goes j first) _ p.1 in
        ((found g ks first j p.0, found g ks j first q.0), left_not done j q.1)

    is_beside : (first j : ℕ) → Reaches g root first → Together g first j × ¬ Has done j → beside first j ≡ true
    is_beside first j r t = and_from _ _ (goes_if first j r t.0.0) (and_from _ _ (goes_if j first (reach_trans r t.0.0) t.0.1) (not_left done j t.1))

    block_is : (first : ℕ) → Reaches g root first → IsBlock g done first (block_of first)
    block_is first r = record {
      members = λ j. (
        λ h. beside_is first j (ranked_only g (beside first) ks j h),
        λ t. ranked_has g (beside first) ks j (all j (reach_trans r t.0.0)) (is_beside first j r t),
      );
      rises = ranked_rises g (beside first) ks;
    }

    next : (t : Least) → IsNext g done root (block_of t.0)
    next t = record { first = t.0; reached = t.1; ready = t.2; least = t.3; is = block_is t.0 t.1 }

    -- what is left to be done
    abbrev undone : ℕ → Bool
    undone j = goes root j && left done j

    some_left : (j : ℕ) → undone j ≡ true → Least
    some_left j e =
        let p = and_parts (goes root j) _ e in
        least_ready (one_ready (passing (goes j) ks) j (found g ks root j p.0) (left_not done j p.1) (omega arith))

  left_grows : (done block : List ℕ) (j : ℕ) → undone (done ++ block) j ≡ true → undone done j ≡ true
  left_grows done block j e =
      let p = and_parts (goes root j) _ e in
      and_from _ _ p.0 (not_left done j (λ h. left_not (done ++ block) j p.1 (has_left done block j h)))

  block_done : (done : List ℕ) (t : Least done) → passing (undone (done ++ block_of done t.0)) ks + 1 ≤ passing (undone done) ks
  block_done done t =
      let here : Has (block_of done t.0) t.0 = ((block_is done t.0 t.1).members t.0).1 ((itself, itself), (t.2).left) in
      less (undone (done ++ block_of done t.0)) (undone done) ks (λ j h e. left_grows done (block_of done t.0) j e) t.0 (all t.0 t.1)
      (false_from_ne_true _ (λ e. left_not (done ++ block_of done t.0) t.0 (and_parts (goes root t.0) _ e).1 (has_right done (block_of done t.0) t.0 here)))
      (and_from _ _ (goes_if root t.0 itself t.1) (not_left done t.0 (t.2).left))

  abbrev Blocks : List ℕ → Type 0
  Blocks done = (blocks : List (List ℕ)) × InBlocks g done root blocks

  none_left : (done : List ℕ) → ((j : ℕ) → Has ks j → undone done j ≡ false) → (j : ℕ) → Reaches g root j → Has done j
  none_left done none j r = elim (and_cases (goes root j) _ (none j (all j r))) [
    | inl never ↦ absurd (false≢true (sym never ∙ goes_if root j itself r))
    | inr e ↦ done_or done j e
  ]

  blocks_from : (n : ℕ) (done : List ℕ) → passing (undone done) ks ≤ n → Blocks done
  blocks_from zero done few = elim (one_or_none (undone done) ks) [
    | inl t ↦ (let l = block_done done (some_left done t.0 t.2) in absurd (omega arith))
    | inr none ↦ ([], none_left done none)
  ]
  blocks_from (suc n) done few = go (blocks_from n) (one_or_none (undone done) ks)
    where
      go : ((more : List ℕ) → passing (undone more) ks ≤ n → Blocks more) → ((j : ℕ) × Has ks j × (undone done j ≡ true)) ⊎ ((j : ℕ) → Has ks j → undone done j ≡ false) → Blocks done
      go rec (inr none) = ([], none_left done none)
      go rec (inl t) =
          let first : Least done = some_left done t.0 t.2 in
          let block : List ℕ = block_of done first.0 in
          let rest : Blocks (done ++ block) = rec (done ++ block) (let l = block_done done first in omega arith) in
          (block ∷ rest.0, (next done first, rest.1))

  pub plan_of : (done : List ℕ) → IsComplete g root → (order : List ℕ) × IsPlan g done root order
  plan_of done complete = elim (has_or done root) [
    | inl h ↦ ([], inl (h, refl))
    | inr not ↦ (let t : Blocks done = blocks_from (passing (undone done) ks) done (omega arith) in (flat_map (λ b. b) t.0, inr (not, (complete, (t.0, refl, t.1)))))
  ]

-- Which components are ready, from their dependencies alone.
use Rattle.std.proofs.Common.{◌≡◌, ℕ, ◌⊎◌, inl, inr, List, [], ◌∷◌, ◌++◌, length, Option, Some, None, Bool, true, false, cond, ltb, ◌&&◌, refl, sym, ap, subst, ◌∙◌, arith, append_assoc, append-nil}
use Rattle.std.proofs.lemmas.Bool.{lt-ltb, ltb-true, cases_Bool, and_parts, and_from, false≢true}
use Rattle.std.specs.List.{filter}
use Rattle.ep_base.specs.declared.attrs.Attrs.{Attrs}
use Rattle.ep_base.specs.Places.{place, Has}
use Rattle.ep_base.proofs.Places.{Has-first}
use Rattle.ep_rules.specs.Graph.{Graph, Reaches}
use Rattle.ep_rules.specs.Graph.Reaches.{itself, onward}
use Rattle.ep_rules.specs.Order.{IsBlock}
use Rattle.ep_exec.specs.Found.{ranked, Gathers}
use Rattle.ep_rules.proofs.Reaching.{reach_trans}
use Rattle.ep_rules.proofs.Places.{has_or, has_left, has_right, has_split, has_cons, has_tail, has_filter, filter_has}
use Rattle.ep_exec.proofs.Blocks.{IsGathered, gathered_none, gathered_more}
use Rattle.ep_exec.specs.Queue.{IsWait}
use Rattle.ep_exec.specs.Walk.{deps_at, IsComponent}
use Rattle.ep_exec.specs.Ready.{is_out, waits_for, passed, first_of, are_in, ranked_left_of}

-- all that it reaches is done
abbrev pub AllDone : Graph → List ℕ → ℕ → Type 0
AllDone g done i = (x : ℕ) → Reaches g i x → Has done x

pub out_yes : (xs : List ℕ) (i : ℕ) → ¬ Has xs i → is_out xs i ≡ true
out_yes xs i n = elim (cases_Bool (ltb (place xs i) (length xs))) [ inl e ↦ absurd (n (ltb-true (place xs i) (length xs) e)) | inr e ↦ ap (λ b. cond b false true) e ]

pub out_then : (xs : List ℕ) (i : ℕ) → is_out xs i ≡ true → ¬ Has xs i
out_then xs i e h = false≢true (sym (ap (λ b. cond b false true) (lt-ltb (place xs i) (length xs) h)) ∙ e)

-- Passing.

pub passed_kept : (done ds : List ℕ) (d : ℕ) → Has ds d → Has (passed done ds) d ⊎ Has done d
passed_kept done [] d h = inl h
passed_kept done (x ∷ ds) d h = go (ltb (place done x) (length done)) refl (passed_kept done ds d)
  where
    go : (b : Bool) → ltb (place done x) (length done) ≡ b → (Has ds d → Has (passed done ds) d ⊎ Has done d) → Has (cond b (passed done ds) (x ∷ ds)) d ⊎ Has done d
    go true e r = elim (has_cons x d ds h) [ inl s ↦ inr (subst (λ y. Has done y) s (ltb-true (place done x) (length done) e)) | inr k ↦ r k ]
    go false e r = inl h

pub passed_within : (done ds : List ℕ) (d : ℕ) → Has (passed done ds) d → Has ds d
passed_within done [] d h = h
passed_within done (x ∷ ds) d h = go (ltb (place done x) (length done)) h (passed_within done ds d)
  where
    go : (b : Bool) → Has (cond b (passed done ds) (x ∷ ds)) d → (Has (passed done ds) d → Has ds d) → Has (x ∷ ds) d
    go true k r = has_tail x d ds (r k)
    go false k r = k

some_same : (a b : ℕ) → Some a ≡ Some b → a ≡ b
some_same a b q = cc

-- it isn't passed
pub passed_first : (done ds : List ℕ) (d : ℕ) → first_of (passed done ds) ≡ Some d → ¬ Has done d
passed_first done [] d e = absurd (cc)
passed_first done (x ∷ ds) d e = go (ltb (place done x) (length done)) refl e (passed_first done ds d)
  where
    go : (b : Bool) → ltb (place done x) (length done) ≡ b → first_of (cond b (passed done ds) (x ∷ ds)) ≡ Some d → (first_of (passed done ds) ≡ Some d → ¬ Has done d) → ¬ Has done d
    go true t f r = r f
    go false t f r = λ h. false≢true (sym t ∙ lt-ltb (place done x) (length done) (let s : x ≡ d = some_same x d f in subst (λ y. Has done y) (sym s) h))

pub first_has : (ds : List ℕ) (d : ℕ) → first_of ds ≡ Some d → Has ds d
first_has [] d e = absurd (cc)
first_has (x ∷ ds) d e = let s : x ≡ d = cc in subst (λ y. Has (x ∷ ds) y) s (Has-first x ds)

pub first_lacks : (ds : List ℕ) (d : ℕ) → first_of ds ≡ None → ¬ Has ds d
first_lacks [] d e h = absurd (omega arith)
first_lacks (x ∷ ds) d e h = absurd (cc)

-- What a component waits for.

pub waits_all : (g : Graph) (c js : List ℕ) (i d : ℕ) (a : Attrs) → Has js i → g i ≡ Some a → Has a.deps d → ¬ Has c d → Has (waits_for g c js) d
waits_all g c [] i d a h e q n = absurd (omega arith)
waits_all g c (x ∷ js) i d a h e q n = elim (has_cons x i js h) [
  | inl s ↦ has_left (filter (is_out c) (deps_at (g x))) (waits_for g c js) d (filter_has (is_out c) (deps_at (g x)) d (out_yes c d n) (subst (λ o. Has (deps_at o) d) (sym (ap g s ∙ e)) q))
  | inr k ↦ has_right (filter (is_out c) (deps_at (g x))) (waits_for g c js) d (waits_all g c js i d a k e q n)
]

dep_of : (g : Graph) (c js : List ℕ) (x d : ℕ) (o : Option Attrs) → g x ≡ o → Has (deps_at o) d → ¬ Has c d → IsWait g c (x ∷ js) d
dep_of g c js x d None e h n = absurd (omega arith)
dep_of g c js x d (Some a) e h n = record { apart = n; from = x; attrs = a; member = Has-first x js; is = e; dep = h }

pub waits_from : (g : Graph) (c js : List ℕ) (d : ℕ) → Has (waits_for g c js) d → IsWait g c js d
waits_from g c [] d h = absurd (omega arith)
waits_from g c (x ∷ js) d h = elim (has_split (filter (is_out c) (deps_at (g x))) (waits_for g c js) d h) [
  | inl k ↦ (let f = has_filter (is_out c) (deps_at (g x)) d k in dep_of g c js x d (g x) refl f.0 (out_then c d f.1))
  | inr k ↦ (let r = waits_from g c js d k in record { apart = r.apart; from = r.from; attrs = r.attrs; member = has_tail x r.from js r.member; is = r.is; dep = r.dep })
]

-- each of the list is among these
pub in_then : (xs ds : List ℕ) → are_in xs ds ≡ true → (d : ℕ) → Has ds d → Has xs d
in_then xs [] e d h = absurd (omega arith)
in_then xs (x ∷ ds) e d h =
    let p = and_parts (ltb (place xs x) (length xs)) (are_in xs ds) e in
    elim (has_cons x d ds h) [ inl q ↦ subst (λ y. Has xs y) q (ltb-true (place xs x) (length xs) p.0) | inr k ↦ in_then xs ds p.1 d k ]

module _ (g : Graph) (done : List ℕ) where
  -- what a clear component reaches is its own or done
  pub reached_in : (s c : List ℕ) → ((i d : ℕ) (a : Attrs) → Has c i → g i ≡ Some a → Has a.deps d → Has s d ⊎ Has c d) → ((d : ℕ) → Has s d → AllDone g done d) → {i j : ℕ} → Has c i → Reaches g i j → Has c j ⊎ AllDone g done j
  reached_in s c cl so h itself = inl h
  reached_in s c cl so h (onward {j = j} {k = k} a r e q) = elim (reached_in s c cl so h r) [
    | inl m ↦ elim (cl j k a m e q) [ inl y ↦ inr (so k y) | inr y ↦ inl y ]
    | inr m ↦ inr (λ x w. m x (reach_trans (onward a itself e q) w))
  ]

-- the order inside a component
ranked_gathered : (g : Graph) (done : List ℕ) (first : ℕ) (seen block js : List ℕ) → IsGathered g done first seen block → ((j : ℕ) → Has js j → Reaches g j first) → IsGathered g done first (seen ++ js) (ranked_left_of g done block js)
ranked_gathered g done first seen block [] w r = rw append-nil w
ranked_gathered g done first seen block (j ∷ js) w r = subst (λ ys. IsGathered g done first ys (ranked_left_of g done (cond (is_out done j && is_out block j) (ranked g block j) block) js)) (append_assoc seen (j ∷ []) js)
    (ranked_gathered g done first (seen ++ j ∷ []) (cond (is_out done j && is_out block j) (ranked g block j) block) js
    (gathered_more g done first seen j block (cond (is_out done j && is_out block j) (ranked g block j) block) w (step (cases_Bool (is_out done j && is_out block j))))
    (λ x h. r x (has_tail j x js h)))
  where
    step : ((is_out done j && is_out block j) ≡ true) ⊎ ((is_out done j && is_out block j) ≡ false) → Gathers g done first j block (cond (is_out done j && is_out block j) (ranked g block j) block)
    step (inl e) = let p = and_parts (is_out done j) (is_out block j) e in inr (out_then done j p.0, out_then block j p.1, r j (Has-first j js), ap (λ b. cond b (ranked g block j) block) e)
    step (inr e) = inl (
      elim (has_or done j) [
        | inl d ↦ inl d
        | inr n ↦ elim (has_or block j) [ inl b ↦ inr (inl b) | inr m ↦ absurd (false≢true (sym e ∙ and_from (is_out done j) (is_out block j) (out_yes done j n) (out_yes block j m))) ]
      ],
      ap (λ b. cond b (ranked g block j) block) e,
    )

pub block_is : (g : Graph) (done : List ℕ) (first : ℕ) (c : List ℕ) → IsComponent g c → Has c first → IsBlock g done first (ranked_left_of g done [] c)
block_is g done first c comp k =
    let w = ranked_gathered g done first [] [] c (gathered_none g done first) (λ j q. ((comp first j k).0 q).1) in
    record {
      members = λ j. (λ b. (let x = w.within j b in ((comp first j k).0 x.0, x.2)), λ m. w.whole j ((comp first j k).1 m.0) m.0.1 m.1);
      rises = w.rises;
    }

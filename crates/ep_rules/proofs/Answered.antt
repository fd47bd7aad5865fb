-- Each answer is the reply of one map to the history.
use Rattle.std.proofs.Common.{◌≡◌, ℕ, zero, suc, ◌+◌, ◌<◌, ◌⊎◌, inl, inr, List, [], ◌∷◌, ◌++◌, length, get_or, take, map, Bool, true, false, cond, eqb, refl, sym, ap, subst, ◌∙◌, arith, length-append}
use Rattle.std.proofs.lemmas.Bool.{eq-eqb, false≢true, eqb-true}
use Rattle.std.proofs.lemmas.List.{get_or-append-add}
use Rattle.std.specs.List.{filter, AllByRecursion}
use Rattle.ep_base.specs.Commands.{Command, Noop, Get, Put, Del, Swap, Cas, Seal, Opaque, Tx}
use Rattle.ep_base.specs.declared.reply.Reply.TheVariants.{Absent}
use Rattle.ep_base.specs.declared.reply.Answer.{Answer}
use Rattle.ep_base.specs.declared.reply.Answer.TheVariants.{Lost, Replied}
use Rattle.ep_base.specs.Places.{place, Has}
use Rattle.ep_rules.specs.Graph.{Graph}
use Rattle.ep_base.specs.Sameness.{is_noop}
use Rattle.ep_rules.specs.OneMap.{Store, after, after_all, reply, answer, answers_of, replies}
use Rattle.ep_rules.proofs.Places.{has_left, place_cons, filter_has, Once, same_refl}
use Rattle.ep_rules.specs.History.{Execution, Done, nothing, with_done, AreDependent, is_new, merged, reply_in, AnswersBy}
use Rattle.ep_rules.proofs.Commuting.{after_noop as noop_stays}
use Rattle.ep_rules.proofs.Wells.{Well, well_plan, well_ordered}
use Rattle.ep_rules.proofs.Replies.{one_reply}
use Rattle.ep_rules.proofs.Executions.{AreExecuted, AreAnswered, AllWell, all_well, all_well_next, start}

-- no no-op
abbrev pub is_real : (ℕ → Command) → ℕ → Bool
is_real c i = cond (is_noop (c i)) false true

pub noop_left : (c : ℕ → Command) (i : ℕ) → is_real c i ≡ false → is_noop (c i) ≡ true
noop_left c i e = go (is_noop (c i)) e
  where
    go : (b : Bool) → cond b false true ≡ false → b ≡ true
    go true e = refl
    go false e = absurd (false≢true (sym e))

-- a no-op leaves the map as it is
after_noop : (m : Store) (d : Command) → is_noop d ≡ true → after m d ≡ m
after_noop m Noop e = noop_stays m
after_noop m (Get k) e = absurd (false≢true e)
after_noop m (Put k v) e = absurd (false≢true e)
after_noop m (Del k) e = absurd (false≢true e)
after_noop m (Swap p) e = absurd (false≢true e)
after_noop m (Cas k x n) e = absurd (false≢true e)
after_noop m (Seal v) e = absurd (false≢true e)
after_noop m (Opaque q w) e = absurd (false≢true e)
after_noop m (Tx is) e = absurd (false≢true e)

pub after_both : (c : ℕ → Command) (m : Store) (xs ys : List ℕ) → after_all c m (xs ++ ys) ≡ after_all c (after_all c m xs) ys
after_both c m [] ys = refl
after_both c m (x ∷ xs) ys = after_both c (after m (c x)) xs ys

-- no-ops may be left out before an instance
real_reply : (c : ℕ → Command) (m : Store) (xs : List ℕ) (i : ℕ) → is_real c i ≡ true → Has xs i →
    reply (after_all c m (take (place (filter (is_real c) xs) i) (filter (is_real c) xs))) (c i) ≡ reply (after_all c m (take (place xs i) xs)) (c i)
real_reply c m [] i real h = absurd (omega arith)
real_reply c m (x ∷ xs) i real h = go (eqb x i) (is_noop (c x)) refl refl h (λ n. real_reply c n xs i real)
  where
    go : (s t : Bool) → eqb x i ≡ s → is_noop (c x) ≡ t → cond s 0 (suc (place xs i)) < suc (length xs) →
        ((n : Store) → Has xs i → reply (after_all c n (take (place (filter (is_real c) xs) i) (filter (is_real c) xs))) (c i) ≡ reply (after_all c n (take (place xs i) xs)) (c i)) →
        reply (after_all c m (take (place (cond (cond t false true) (x ∷ filter (is_real c) xs) (filter (is_real c) xs)) i) (cond (cond t false true) (x ∷ filter (is_real c) xs) (filter (is_real c) xs)))) (c i)
        ≡ reply (after_all c m (take (cond s 0 (suc (place xs i))) (x ∷ xs))) (c i)
    go true true es et l r = absurd (false≢true (sym (ap (λ b. cond b false true) (sym (ap (λ y. is_noop (c y)) (eqb-true x i es)) ∙ et)) ∙ real))
    go true false es et l r = rw es refl
    go false false es et l r = rw es (r (after m (c x)) (omega arith))
    go false true es et l r = r m (omega arith) ∙ ap (λ n. reply (after_all c n (take (place xs i) xs)) (c i)) (sym (after_noop m (c x) et))

-- what is reported at a place of a list
replies_at : (c : ℕ → Command) (m : Store) (xs : List ℕ) (i : ℕ) → Has xs i → get_or (replies m (map c xs)) (place xs i) Absent ≡ reply (after_all c m (take (place xs i) xs)) (c i)
replies_at c m [] i h = absurd (omega arith)
replies_at c m (x ∷ xs) i h = go (eqb x i) refl h (replies_at c (after m (c x)) xs i)
  where
    go : (s : Bool) → eqb x i ≡ s → cond s 0 (suc (place xs i)) < suc (length xs) → (Has xs i → get_or (replies (after m (c x)) (map c xs)) (place xs i) Absent ≡ reply (after_all c (after m (c x)) (take (place xs i) xs)) (c i)) → get_or (reply m (c x) ∷ replies (after m (c x)) (map c xs)) (cond s 0 (suc (place xs i))) Absent ≡ reply (after_all c m (take (cond s 0 (suc (place xs i))) (x ∷ xs))) (c i)
    go true es l r = ap (λ y. reply m (c y)) (eqb-true x i es)
    go false es l r = r (omega arith)

-- the answer at a place of an execution
answers_at : (c : ℕ → Command) (m : Store) (xs : List ℕ) (k : ℕ) (i : ℕ) (a : Answer) → k < length xs → get_or (answers_of c m xs) k a ≡ answer (after_all c m (take k xs)) (c (get_or xs k i))
answers_at c m [] k i a lt = absurd (omega arith)
answers_at c m (x ∷ xs) zero i a lt = refl
answers_at c m (x ∷ xs) (suc k) i a lt = answers_at c (after m (c x)) xs k i a (omega arith)

-- where each stands once, an instance's place is where it stands
place_once : (xs : List ℕ) (k : ℕ) (i : ℕ) → Once xs → k < length xs → get_or xs k i ≡ i → place xs i ≡ k
place_once [] k i o lt e = absurd (omega arith)
place_once (x ∷ xs) zero i o lt e = ap (λ b. cond b 0 (suc (place xs i))) (ap (λ y. eqb y i) e ∙ same_refl i)
place_once (x ∷ xs) (suc k) i o lt e = go (place_cons x i xs) (place_once xs k i o.1 (omega arith) e)
  where
    go : ((x ≡ i) × (place (x ∷ xs) i ≡ 0)) ⊎ (place (x ∷ xs) i ≡ suc (place xs i)) → place xs i ≡ k → place (x ∷ xs) i ≡ suc k
    go (inl p) r = absurd (o.0 (subst (λ y. Has xs y) (sym p.0) (omega arith)))
    go (inr p) r = omega arith

take_in_second : (xs ys : List ℕ) (k : ℕ) → take (length xs + k) (xs ++ ys) ≡ xs ++ take k ys
take_in_second [] ys k = ap (λ n. take n ys) (omega arith)
take_in_second (x ∷ xs) ys k = ap (λ n. take n (x ∷ xs ++ ys)) shift ∙ ap (λ zs. x ∷ zs) (take_in_second xs ys k)
  where
    shift : suc (length xs) + k ≡ suc (length xs + k)
    shift = omega arith

-- what is in the history so far stays
pub merged_keeps : (h : List ℕ) (es : List Execution) (i : ℕ) → Has h i → Has (merged h es) i
merged_keeps h [] i k = k
merged_keeps h (e ∷ es) i k = merged_keeps (h ++ filter (is_new h) e.order) es i (has_left h (filter (is_new h) e.order) i k)

module _ (base : Store) (all : Graph) (c : ℕ → Command) (dep : AreDependent all c) (h : List ℕ) (wh : Well all h) where
  real : List ℕ
  real = filter (is_real c) h

  same_reply : (l : List ℕ) (i : ℕ) → Well all l → Has l i → Has h i → reply_in base c l i ≡ reply_in base c h i
  same_reply l i w hl hi = one_reply base c i l h w.once wh.once hl hi (well_ordered all c dep l h w wh)

  -- one execution's answers, where its replica's list is in order and the history has it
  one : (e : Execution) (before : List ℕ) → Well all (before ++ e.order) → ((i : ℕ) → Has (before ++ e.order) i → Has h i) → e.answers ≡ answers_of c (after_all c base before) e.order → AnswersBy base c real e
  unfolding real
  one e before w within is k i x lt at = go (is_noop (c i)) refl
    where
      here : place (before ++ e.order) i ≡ length before + k
      here = place_once (before ++ e.order) (length before + k) i w.once (omega (arith, length-append before e.order)) (get_or-append-add before e.order k i ∙ at)

      has : Has (before ++ e.order) i
      has = omega (arith, here, length-append before e.order)

      front : take (place (before ++ e.order) i) (before ++ e.order) ≡ before ++ take k e.order
      front = ap (λ n. take n (before ++ e.order)) here ∙ take_in_second before e.order k

      reported : get_or e.answers k x ≡ answer (after_all c base (take (place (before ++ e.order) i) (before ++ e.order))) (c i)
      reported = ap (λ as'. get_or as' k x) is ∙ answers_at c (after_all c base before) e.order k i x lt ∙ ap (λ y. answer (after_all c (after_all c base before) (take k e.order)) (c y)) at
          ∙ ap (λ m. answer m (c i)) (sym (after_both c base before (take k e.order)) ∙ ap (λ ys. after_all c base ys) (sym front))

      go : (b : Bool) → is_noop (c i) ≡ b → ((is_noop (c i) ≡ true) × (get_or e.answers k x ≡ Lost)) ⊎ (Has (filter (is_real c) h) i × (get_or e.answers k x ≡ Replied (get_or (replies base (map c (filter (is_real c) h))) (place (filter (is_real c) h) i) Absent)))
      go true n = inl (n, reported ∙ ap (λ b. cond b Lost (Replied (reply (after_all c base (take (place (before ++ e.order) i) (before ++ e.order))) (c i)))) n)
      go false n =
          let r : is_real c i ≡ true = ap (λ b. cond b false true) n in
          let hi : Has h i = within i has in
          let hr : Has (filter (is_real c) h) i = filter_has (is_real c) h i r hi in
          inr (
            hr,
            reported ∙ ap (λ b. cond b Lost (Replied (reply (after_all c base (take (place (before ++ e.order) i) (before ++ e.order))) (c i)))) n
                ∙ ap Replied (same_reply (before ++ e.order) i w has hi ∙ sym (real_reply c base h i r hi) ∙ sym (replies_at c base (filter (is_real c) h) i hr)),
          )

-- all executions
each : (base : Store) → (all : Graph) (c : ℕ → Command) (dep : AreDependent all c) (final : List ℕ) → Well all final → (done : Done) (h : List ℕ) (es : List Execution) → AllWell all done h → AreExecuted all done es → AreAnswered base c done es → ((i : ℕ) → Has (merged h es) i → Has final i) → AllByRecursion (AnswersBy base c (filter (is_real c) final)) es
unfolding real
each base all c dep final wf done h [] w x a sub = tt
each base all c dep final wf done h (e ∷ es) w x a sub =
    let next = well_plan e.graph all (done e.replica) e.root e.order x.0 (w.each e.replica) x.1 in
    let w' = all_well_next all done h e w next in
    let in_next = w'.within e.replica in (
      one base all c dep final wf e (done e.replica) next
          (λ i k. sub i (merged_keeps (h ++ filter (is_new h) e.order) es i (in_next i (subst (λ b. Has (cond b (done e.replica ++ e.order) (done e.replica)) i) (sym (eq-eqb e.replica e.replica refl)) k)))) a.0,
      each base all c dep final wf (with_done done e) (h ++ filter (is_new h) e.order) es w' x.2 a.1 sub,
    )

pub one_history_of : (base : Store) → (all : Graph) (c : ℕ → Command) (es : List Execution) → AreDependent all c → AreExecuted all nothing es → AreAnswered base c nothing es → AllByRecursion (AnswersBy base c (filter (is_real c) (merged [] es))) es
one_history_of base all c es dep x a =
    let w = all_well all nothing [] es (start all) x in
    each base all c dep (merged [] es) w.whole nothing [] es (start all) x a (λ i k. k)

-- Any machine, by instances done in turn.
use Rattle.std.proofs.Common.{◌≡◌, ◌≢◌, ℕ, suc, ◌<◌, ◌↔◌, List, [], ◌∷◌, ◌++◌, length, take, Option, Some, None, Bool, true, false, cond, eqb, refl, sym, ap, subst, ◌∙◌, arith}
use Rattle.std.proofs.lemmas.Bool.{eq-eqb, false≢true, eqb-true}
use Rattle.std.specs.List.{filter}
use Rattle.ep_base.specs.Interference.{interfere}
use Rattle.ep_base.specs.Places.{place, Has}
use Rattle.ep_base.specs.Sameness.{is_noop}
use Rattle.ep_base.specs.Commands.{Command}
use Rattle.ep_rules.specs.Graph.{Graph}
use Rattle.ep_rules.specs.History.{Execution, Done, nothing, with_done, done_after, of, merged, AreDependent}
use Rattle.ep_rules.specs.Machines.{AreFree, Machine, after_operations, reply_to, ArePlanned, OneMachine, OneState}
use Rattle.ep_rules.specs.Operations.{Operation, operations_of}
use Rattle.ep_rules.proofs.Answered.{is_real, noop_left}
use Rattle.ep_rules.proofs.Executions.{AreExecuted, all_well, start}
use Rattle.ep_rules.proofs.Places.{has_filter, filter_has, once_filter, filter_forth, filter_back}
use Rattle.ep_rules.proofs.Turns.{run, Commute, AreUnseen, IsAlike, idle_out, same_after, one_reported}
use Rattle.ep_rules.proofs.Wells.{Well, well_ordered}

-- Plans alone.

planned_next : (all : Graph) (done : Done) (e : Execution) (es : List Execution) (r : ℕ) (b : Bool) → ArePlanned all (done r) (cond b (e ∷ of r es) (of r es)) → ArePlanned all (cond b (done r ++ e.order) (done r)) (of r es)
planned_next all done e es r true h = h.2
planned_next all done e es r false h = h

pub planned : (all : Graph) (done : Done) (es : List Execution) → ((r : ℕ) → ArePlanned all (done r) (of r es)) → AreExecuted all done es
planned all done [] h = tt
planned all done (e ∷ es) h =
    let mine : ArePlanned all (done e.replica) (e ∷ of e.replica es) = subst (λ b. ArePlanned all (done e.replica) (cond b (e ∷ of e.replica es) (of e.replica es))) (eq-eqb e.replica e.replica refl) (h e.replica) in
    (mine.0, mine.1, planned all (with_done done e) es (λ r. planned_next all done e es r (eqb e.replica r) (h r)))

executed_first : (all : Graph) (done : Done) (early late : List Execution) → AreExecuted all done (early ++ late) → AreExecuted all done early
executed_first all done [] late x = tt
executed_first all done (e ∷ early) late x = (x.0, x.1, executed_first all (with_done done e) early late x.2)

not_noop : (c : ℕ → Command) (i : ℕ) → is_real c i ≡ true → is_noop (c i) ≡ false
not_noop c i e = go (is_noop (c i)) e
  where
    go : (b : Bool) → cond b false true ≡ true → b ≡ false
    go true e = absurd (false≢true e)
    go false e = refl

module _ {S R : Type 0} (M : Machine S R) (c : ℕ → Command) where
  abbrev op : ℕ → Operation
  op i = record { instance = i; command = c i }

  -- what an instance does: a no-op does nothing
  abbrev step : S → ℕ → S
  step s i = cond (is_noop (c i)) s (M.after s (op i))

  abbrev ask : S → ℕ → Option R
  ask s i = cond (is_noop (c i)) None (Some (M.reply s (op i)))

  abbrev meets : ℕ → ℕ → Bool
  meets i j = interfere (c i) (c j)

  free : (i j : ℕ) → i ≢ j → is_noop (c i) ≡ false → is_noop (c j) ≡ false → meets i j ≡ false → AreFree (op i) (op j)
  free i j ne p q e = record { others = ne; first = p; second = q; meet = e }

  commute : Commute step meets
  commute s i j ne e = go (is_noop (c i)) (is_noop (c j)) refl refl
    where
      go : (a b : Bool) → is_noop (c i) ≡ a → is_noop (c j) ≡ b →
          cond b (cond a s (M.after s (op i))) (M.after (cond a s (M.after s (op i))) (op j)) ≡ cond a (cond b s (M.after s (op j))) (M.after (cond b s (M.after s (op j))) (op i))
      go true true p q = refl
      go true false p q = refl
      go false true p q = refl
      go false false p q = M.commute s (op i) (op j) (free i j ne p q e)

  unseen : AreUnseen step ask meets
  unseen s i j ne e = go (is_noop (c i)) (is_noop (c j)) refl refl
    where
      go : (a b : Bool) → is_noop (c i) ≡ a → is_noop (c j) ≡ b → cond b None (Some (M.reply (cond a s (M.after s (op i))) (op j))) ≡ cond b None (Some (M.reply s (op j)))
      go true true p q = refl
      go true false p q = refl
      go false true p q = refl
      go false false p q = ap Some (M.unseen s (op i) (op j) (free i j ne p q e))

  -- the operations of instances are the instances done in turn
  runs : (s : S) (xs : List ℕ) → after_operations M s (operations_of c xs) ≡ run step s xs
  runs s [] = refl
  runs s (x ∷ xs) = go (is_noop (c x)) (λ n. runs n xs)
    where
      go : (b : Bool) → ((n : S) → after_operations M n (operations_of c xs) ≡ run step n xs) → after_operations M s (cond b (operations_of c xs) (op x ∷ operations_of c xs)) ≡ run step (cond b s (M.after s (op x))) xs
      go true r = r s
      go false r = r (M.after s (op x))

  reported : (s : S) (xs : List ℕ) (i : ℕ) → is_noop (c i) ≡ false → Has xs i → reply_to M s (operations_of c xs) i ≡ ask (run step s (take (place xs i) xs)) i
  reported s [] i real h = absurd (omega arith)
  reported s (x ∷ xs) i real h = go (eqb x i) (is_noop (c x)) refl refl h (λ n. reported n xs i real)
    where
      go : (t b : Bool) → eqb x i ≡ t → is_noop (c x) ≡ b → cond t 0 (suc (place xs i)) < suc (length xs) →
          ((n : S) → Has xs i → reply_to M n (operations_of c xs) i ≡ ask (run step n (take (place xs i) xs)) i) →
          reply_to M s (cond b (operations_of c xs) (op x ∷ operations_of c xs)) i ≡ ask (run step s (take (cond t 0 (suc (place xs i))) (x ∷ xs))) i
      go true true et eb l r = absurd (false≢true (sym real ∙ sym (ap (λ y. is_noop (c y)) (eqb-true x i et)) ∙ eb))
      go true false et eb l r =
          ap (λ t. cond t (Some (M.reply s (op x))) (reply_to M (M.after s (op x)) (operations_of c xs) i)) et
          ∙ ap (λ y. Some (M.reply s (op y))) (eqb-true x i et)
          ∙ sym (ap (λ t. cond t None (Some (M.reply s (op i)))) real)
      go false true et eb l r = r s (omega arith) ∙ ap (λ t. ask (run step (cond t s (M.after s (op x))) (take (place xs i) xs)) i) (sym eb)
      go false false et eb l r =
          ap (λ t. cond t (Some (M.reply s (op x))) (reply_to M (M.after s (op x)) (operations_of c xs) i)) et
          ∙ r (M.after s (op x)) (omega arith)
          ∙ ap (λ t. ask (run step (cond t s (M.after s (op x))) (take (place xs i) xs)) i) (sym eb)

  asked : (s : S) (i : ℕ) → is_noop (c i) ≡ false → ask s i ≡ Some (M.reply s (op i))
  asked s i real = ap (λ t. cond t None (Some (M.reply s (op i)))) real

  module _ (all : Graph) (dep : AreDependent all c) (l m : List ℕ) (wl : Well all l) (wm : Well all m) (base : S) where
    -- two lists in execution order answer an operation alike
    pub same_reported : (i : ℕ) → Has l i → Has m i → is_noop (c i) ≡ false → (x : R) × (reply_to M base (operations_of c l) i ≡ Some x) × (reply_to M base (operations_of c m) i ≡ Some x)
    same_reported i hl hm real =
        let s : S = run step base (take (place l i) l) in
        let first : reply_to M base (operations_of c l) i ≡ ask s i = reported base l i real hl in
        let both : ask s i ≡ ask (run step base (take (place m i) m)) i = one_reported step meets commute i base l m wl.once wm.once hl hm (well_ordered all c dep l m wl wm) ask unseen in
        (M.reply s (op i), first ∙ asked s i real, reported base m i real hm ∙ sym both ∙ asked s i real)

    -- and, with the same operations, leave one state
    pub same_left : ((i : ℕ) → is_noop (c i) ≡ false → Has l i ↔ Has m i) → after_operations M base (operations_of c l) ≡ after_operations M base (operations_of c m)
    same_left same =
        runs base l ∙ idle_out step meets commute (is_real c) base l (still l)
        ∙ same_after step meets commute base (filter (is_real c) l) (filter (is_real c) m) (once_filter (is_real c) l wl.once) (once_filter (is_real c) m wm.once) members alike
        ∙ sym (idle_out step meets commute (is_real c) base m (still m)) ∙ sym (runs base m)
      where
        still : (xs : List ℕ) (x : ℕ) → Has xs x → is_real c x ≡ false → (s : S) → step s x ≡ s
        still xs x h e s = ap (λ b. cond b s (M.after s (op x))) (noop_left c x e)

        members : (i : ℕ) → Has (filter (is_real c) l) i ↔ Has (filter (is_real c) m) i
        members i = (
          λ h. let f = has_filter (is_real c) l i h in filter_has (is_real c) m i f.1 ((same i (not_noop c i f.1)).0 f.0),
          λ h. let f = has_filter (is_real c) m i h in filter_has (is_real c) l i f.1 ((same i (not_noop c i f.1)).1 f.0),
        )

        alike : IsAlike meets (filter (is_real c) l) (filter (is_real c) m)
        alike u w hu hu' hw hw' e =
            let fu = has_filter (is_real c) l u hu in
            let fw = has_filter (is_real c) l w hw in
            let gu = has_filter (is_real c) m u hu' in
            let gw = has_filter (is_real c) m w hw' in
            let o = well_ordered all c dep l m wl wm u w fw.0 gw.0 e in (
              λ lt. filter_forth (is_real c) m u w fu.1 fw.1 (o.0 (filter_back (is_real c) l u w fu.1 fw.1 fu.0 lt)),
              λ lt. filter_forth (is_real c) l u w fu.1 fw.1 (o.1 (filter_back (is_real c) m u w fu.1 fw.1 gu.0 lt)),
            )

pub one_machine_lem : (S R : Type 0) → OneMachine S R
one_machine_lem S R M base all c es dep h r i hi real =
    let w = all_well all nothing [] es (start all) (planned all nothing es h) in
    same_reported M c all dep (done_after nothing es r) (merged [] es) (w.each r) w.whole base i hi (w.within r i hi) real

pub one_state_lem : (S R : Type 0) → OneState S R
one_state_lem S R M base all c early late dep h r q same =
    let x = planned all nothing (early ++ late) h in
    let first = all_well all nothing [] early (start all) (executed_first all nothing early late x) in
    let then = all_well all nothing [] (early ++ late) (start all) x in
    same_left M c all dep (done_after nothing early r) (done_after nothing (early ++ late) q) (first.each r) (then.each q) base same

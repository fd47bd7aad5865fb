-- Each generation of a life is a run from its opening map.
use Rattle.std.proofs.Common.{◌≡◌, ℕ, suc, ◌<◌, ◌≤◌, ◌⊎◌, Bool, true, false, cond, ◌||◌, eqb, inl, inr, List, [], ◌∷◌, ◌++◌, refl, sym, ap, subst, ◌∙◌, arith, append-nil, append_assoc}
use Rattle.std.proofs.lemmas.Bool.{false≢true, eqb-true, or_parts}
use Rattle.ep_base.specs.Interference.{is_seal}
use Rattle.ep_base.specs.Quorums.{size}
use Rattle.ep_rules.specs.Closing.{has_seal, up_to_seal, first_seal, written_by, store_of, HasClosed}
use Rattle.ep_rules.specs.Generations.{Turn, Opens, Steps, Life, birth, with_state, IsTurn, turned, IsLife, lived, acts_in, opening_map, history_in, IsReady, RunsMakeLives, OneOpening}
use Rattle.ep_rules.specs.OneMap.{Contents, opened, is_closed}
use Rattle.ep_rules.specs.Operations.{Operation, history_of}
use Rattle.ep_rules.specs.States.{fresh_state}
use Rattle.ep_rules.specs.Steps.{IsStep, leaves, sends}
use Rattle.ep_rules.specs.Worlds.{World, opening, In, Act, IsThere, Happens, moved, IsRun, ends}
use Rattle.ep_rules.proofs.Closings.{runs_close_lem}
use Rattle.ep_rules.proofs.JournalsCommitted.{run_parts}
use Rattle.ep_rules.proofs.Places.{same_refl}
use Rattle.ep_rules.proofs.RunHistories.{history_grows_lem}

-- A run and one act more.

run_more : (f : ℕ) (w : World) (acts : List Act) (a : Act) → IsRun f w acts → Happens f (ends f w acts) a → IsRun f w (acts ++ (a ∷ []))
run_more f w [] a run h = (h, tt)
run_more f w (b ∷ acts) a run h = (run.0, run_more f (moved f w b) acts a run.1 h)

ends_more : (f : ℕ) (w : World) (acts : List Act) (a : Act) → ends f w (acts ++ (a ∷ [])) ≡ moved f (ends f w acts) a
ends_more f w [] a = refl
ends_more f w (b ∷ acts) a = ends_more f (moved f w b) acts a

pub in_both : {X : Type 0} (xs ys : List X) (x : X) → In x (xs ++ ys) → In x xs ⊎ In x ys
in_both [] ys x k = inr k
in_both (y ∷ xs) ys x (inl e) = inl (inl e)
in_both (y ∷ xs) ys x (inr k) = elim (in_both xs ys x k) [ inl l ↦ inl (inr l) | inr r ↦ inr r ]

-- Operations, and more of them after a seal.

pub seal_more : (xs ys : List Operation) → has_seal xs ≡ true → has_seal (xs ++ ys) ≡ true
seal_more [] ys e = absurd (false≢true e)
seal_more (o ∷ xs) ys e = go (is_seal o.command) e (seal_more xs ys)
  where
    go : (b : Bool) → (b || has_seal xs) ≡ true → (has_seal xs ≡ true → has_seal (xs ++ ys) ≡ true) → (b || has_seal (xs ++ ys)) ≡ true
    go true e rec = refl
    go false e rec = rec e

pub cut_more : (xs ys : List Operation) → has_seal xs ≡ true → up_to_seal (xs ++ ys) ≡ up_to_seal xs
cut_more [] ys e = absurd (false≢true e)
cut_more (o ∷ xs) ys e = go (is_seal o.command) e (cut_more xs ys)
  where
    go : (b : Bool) → (b || has_seal xs) ≡ true → (has_seal xs ≡ true → up_to_seal (xs ++ ys) ≡ up_to_seal xs) → o ∷ cond b [] (up_to_seal (xs ++ ys)) ≡ o ∷ cond b [] (up_to_seal xs)
    go true e rec = refl
    go false e rec = ap (λ os. o ∷ os) (rec e)

pub first_more : (xs ys : List Operation) → has_seal xs ≡ true → first_seal (xs ++ ys) ≡ first_seal xs
first_more [] ys e = absurd (false≢true e)
first_more (o ∷ xs) ys e = go (is_seal o.command) e (first_more xs ys)
  where
    go : (b : Bool) → (b || has_seal xs) ≡ true → (has_seal xs ≡ true → first_seal (xs ++ ys) ≡ first_seal xs) → cond b (Rattle.ep_rules.specs.OneMap.sealed_by o.command) (first_seal (xs ++ ys)) ≡ cond b (Rattle.ep_rules.specs.OneMap.sealed_by o.command) (first_seal xs)
    go true e rec = refl
    go false e rec = rec e

-- Turns.

pub acts_both : (g : ℕ) (xs ys : List Turn) → acts_in g (xs ++ ys) ≡ acts_in g xs ++ acts_in g ys
acts_both g [] ys = refl
acts_both g (Opens k r q ∷ xs) ys = acts_both g xs ys
acts_both g (Steps k a ∷ xs) ys = go (eqb k g) (acts_both g xs ys)
  where
    go : (b : Bool) → acts_in g (xs ++ ys) ≡ acts_in g xs ++ acts_in g ys → cond b (a ∷ acts_in g (xs ++ ys)) (acts_in g (xs ++ ys)) ≡ cond b (a ∷ acts_in g xs) (acts_in g xs) ++ acts_in g ys
    go true e = ap (λ z. a ∷ z) e
    go false e = e

pub life_parts : (f : ℕ → ℕ) (xs ys : List Turn) (l : Life) → IsLife f l (xs ++ ys) → IsLife f l xs × IsLife f (lived f l xs) ys
life_parts f [] ys l h = (tt, h)
life_parts f (t ∷ xs) ys l h = let r = life_parts f xs ys (turned f l t) h.1 in ((h.0, r.0), r.1)

module _ (start : Contents) (f : ℕ → ℕ) (sizes : (g : ℕ) → (0 < f g) × (size (f g) ≤ 256)) (turns : List Turn) where
  abbrev pub base_of : ℕ → Contents
  base_of g = opening_map start f turns g

  -- the opening world of a generation
  abbrev pub first_of : ℕ → World
  first_of g = opening (opened (base_of g))

  abbrev history_so_far : ℕ → List Act → List Operation
  history_so_far g acts = history_of (opened (base_of g)) (f g) acts

  -- a generation's world, and who has opened it, after these of its acts
  pub record Follows (h : ℕ) (w : World) (op : ℕ → Bool) (acts : List Act) : Type 0 where
    pub run : IsRun (f h) (first_of h) acts
    pub sent : w.sent ≡ (ends (f h) (first_of h) acts).sent
    pub same : (r : ℕ) → op r ≡ true → w.states r ≡ (ends (f h) (first_of h) acts).states r
    pub fresh : (r : ℕ) → op r ≡ false → (ends (f h) (first_of h) acts).states r ≡ fresh_state (opened (base_of h))
    pub idle : (r : ℕ) → op r ≡ false → (w.states r).executed ≡ []

  module _ (h : ℕ) (w : World) (op : ℕ → Bool) (acts : List Act) (k : Follows h w op acts) where
    abbrev e : World
    e = ends (f h) (first_of h) acts

    module _ (a : Act) (by : op a.replica ≡ true) (now : Happens (f h) w a) where
      happens : Happens (f h) e a
      happens = record {
        replica = now.replica;
        step = subst (λ s. IsStep (f h) a.replica s a.event a.done) (k.same a.replica by) now.step;
        there = subst (λ ss. IsThere ss a.event) k.sent now.there;
      }

      other : (r : ℕ) → op r ≡ false → (b : Bool) → eqb a.replica r ≡ b → b ≡ false
      other r n true q = absurd (false≢true (sym n ∙ subst (λ z. op z ≡ true) (eqb-true a.replica r q) by))
      other r n false q = refl

      follows_step : Follows h (moved (f h) w a) op (acts ++ (a ∷ []))
      follows_step = record {
        run = run_more (f h) (first_of h) acts a k.run happens;
        sent =
            ap (λ ss. ss ++ sends (f h) a.replica (w.states a.replica) a.event) k.sent
            ∙ ap (λ s. e.sent ++ sends (f h) a.replica s a.event) (k.same a.replica by)
            ∙ ap (λ (v : World). v.sent) (sym (ends_more (f h) (first_of h) acts a));
        same = λ r o.
            ap (λ s. cond (eqb a.replica r) (leaves (f h) r s a.event a.done) s) (k.same r o)
            ∙ ap (λ (v : World). v.states r) (sym (ends_more (f h) (first_of h) acts a));
        fresh = λ r n.
            ap (λ (v : World). v.states r) (ends_more (f h) (first_of h) acts a)
            ∙ ap (λ b. cond b (leaves (f h) r (e.states r) a.event a.done) (e.states r)) (other r n (eqb a.replica r) refl)
            ∙ k.fresh r n;
        idle = λ r n. ap (λ b. (cond b (leaves (f h) r (w.states r) a.event a.done) (w.states r)).executed) (other r n (eqb a.replica r) refl) ∙ k.idle r n;
      }

    follows_open : (r : ℕ) → op r ≡ false → Follows h (with_state w r (fresh_state (opened (base_of h)))) (λ p. eqb r p || op p) acts
    follows_open r n = record {
      run = k.run;
      sent = k.sent;
      same = λ p o. here p (eqb r p) refl o;
      fresh = λ p o. k.fresh p (or_parts (eqb r p) (op p) o).1;
      idle = λ p o. let parts = or_parts (eqb r p) (op p) o in ap (λ b. (cond b (fresh_state (opened (base_of h))) (w.states p)).executed) parts.0 ∙ k.idle p parts.1;
    }
      where
        here : (p : ℕ) (b : Bool) → eqb r p ≡ b → (b || op p) ≡ true → cond b (fresh_state (opened (base_of h))) (w.states p) ≡ e.states p
        here p true q o = sym (k.fresh p (subst (λ z. op z ≡ false) (eqb-true r p q) n))
        here p false q o = k.same p o

  -- a life, and each generation's acts so far
  pub record Kept (l : Life) (done : ℕ → List Act) : Type 0 where
    pub each : (h : ℕ) → Follows h (l.worlds h) (l.has_opened h) (done h)
    pub sealed : (h r : ℕ) → l.has_opened (suc h) r ≡ true → has_seal (history_so_far h (done h)) ≡ true
    pub acted : (h : ℕ) (a : Act) → In a (done (suc h)) → has_seal (history_so_far h (done h)) ≡ true

  abbrev with_turn : (ℕ → List Act) → Turn → ℕ → List Act
  with_turn done (Opens g r q) h = done h
  with_turn done (Steps g a) h = cond (eqb g h) (done h ++ (a ∷ [])) (done h)

  module _ (l : Life) (done : ℕ → List Act) (k : Kept l done) where
    -- what has closed its map in a generation knows the next one's opening map
    module _ (g q : ℕ) (rest : List Act) (whole : done g ++ rest ≡ acts_in g turns) (by : l.has_opened g q ≡ true) (shut : HasClosed (l.worlds g) q) where
      closed : (has_seal (history_so_far g (done g)) ≡ true)
          × (store_of (ends (f g) (first_of g) (done g)) q ≡ record { contents = written_by (base_of g) (up_to_seal (history_so_far g (done g))); seal = first_seal (history_so_far g (done g)) })
      closed = runs_close_lem (base_of g) (f g) (sizes g).0 (sizes g).1 (done g) (k.each g).run q (subst (λ s. is_closed s.store ≡ true) ((k.each g).same q by) shut)

      grows : (more : List Operation) × (history_in start f turns g ≡ history_so_far g (done g) ++ more)
      grows =
          let t = history_grows_lem (opened (base_of g)) (f g) (done g) rest in
          (t.0, ap (λ acts. history_so_far g acts) (sym whole) ∙ t.1)

      pub knows : store_of (l.worlds g) q ≡ record { contents = base_of (suc g); seal = first_seal (history_in start f turns g) }
      knows =
          ap (λ s. s.store) ((k.each g).same q by) ∙ closed.1
          ∙ ap (λ os. record { contents = written_by (base_of g) os; seal = first_seal (history_so_far g (done g)) }) (sym (cut_more (history_so_far g (done g)) grows.0 closed.0) ∙ ap up_to_seal (sym grows.1))
          ∙ ap (λ v. record { contents = base_of (suc g); seal = v }) (sym (first_more (history_so_far g (done g)) grows.0 closed.0) ∙ ap first_seal (sym grows.1))

    opens_keeps : (g r q : ℕ) (rest : List Act) → done g ++ rest ≡ acts_in g turns → IsTurn f l (Opens g r q) → Kept (turned f l (Opens g r q)) done
    opens_keeps g r q rest whole turn = record {
      each = λ h. each h (eqb (suc g) h) refl;
      sealed = λ h p o. sealed h p (eqb (suc g) (suc h)) refl o;
      acted = k.acted;
    }
      where
        each : (h : ℕ) (b : Bool) → eqb (suc g) h ≡ b →
            Follows h (cond b (with_state (l.worlds h) r (fresh_state (opened (store_of (l.worlds g) q).contents))) (l.worlds h)) (λ p. cond b (eqb r p || l.has_opened h p) (l.has_opened h p)) (done h)
        each h true is =
            subst (λ n. Follows n (with_state (l.worlds n) r (fresh_state (opened (store_of (l.worlds g) q).contents))) (λ p. eqb r p || l.has_opened n p) (done n)) (eqb-true (suc g) h is)
            (subst (λ m. Follows (suc g) (with_state (l.worlds (suc g)) r (fresh_state (opened m))) (λ p. eqb r p || l.has_opened (suc g) p) (done (suc g))) (sym (ap (λ s. s.contents) (knows g q rest whole turn.1 turn.2)))
            (follows_open (suc g) (l.worlds (suc g)) (l.has_opened (suc g)) (done (suc g)) (k.each (suc g)) r turn.0))
        each h false is = k.each h

        sealed : (h p : ℕ) (b : Bool) → eqb (suc g) (suc h) ≡ b → cond b (eqb r p || l.has_opened (suc h) p) (l.has_opened (suc h) p) ≡ true → has_seal (history_so_far h (done h)) ≡ true
        sealed h p true is o = let e = eqb-true (suc g) (suc h) is in let same : g ≡ h = omega arith in subst (λ n. has_seal (history_so_far n (done n)) ≡ true) same (closed g q rest whole turn.1 turn.2).0
        sealed h p false is o = k.sealed h p o

    -- a seal stays in a history
    seal_stays : (h : ℕ) (a : Act) (b : Bool) → has_seal (history_so_far h (done h)) ≡ true → has_seal (history_so_far h (cond b (done h ++ (a ∷ [])) (done h))) ≡ true
    seal_stays h a true e =
        let t = history_grows_lem (opened (base_of h)) (f h) (done h) (a ∷ []) in
        subst (λ os. has_seal os ≡ true) (sym t.1) (seal_more (history_so_far h (done h)) t.0 e)
    seal_stays h a false e = e

    steps_keeps : (g : ℕ) (a : Act) → IsTurn f l (Steps g a) → Kept (turned f l (Steps g a)) (with_turn done (Steps g a))
    steps_keeps g a turn = record {
      each = λ h. each h (eqb g h) refl;
      sealed = λ h p o. seal_stays h a (eqb g h) (k.sealed h p o);
      acted = λ h x m. seal_stays h a (eqb g h) (acted h x (eqb g (suc h)) refl m);
    }
      where
        each : (h : ℕ) (b : Bool) → eqb g h ≡ b → Follows h (cond b (moved (f h) (l.worlds h) a) (l.worlds h)) (l.has_opened h) (cond b (done h ++ (a ∷ [])) (done h))
        each h true is =
            subst (λ n. Follows n (moved (f n) (l.worlds n) a) (l.has_opened n) (done n ++ (a ∷ []))) (eqb-true g h is)
            (follows_step g (l.worlds g) (l.has_opened g) (done g) (k.each g) a turn.0 turn.1)
        each h false is = k.each h

        acted : (h : ℕ) (x : Act) (b : Bool) → eqb g (suc h) ≡ b → In x (cond b (done (suc h) ++ (a ∷ [])) (done (suc h))) → has_seal (history_so_far h (done h)) ≡ true
        acted h x true is m = elim (in_both (done (suc h)) (a ∷ []) x m) [
          | inl old ↦ k.acted h x old
          | inr new ↦ k.sealed h a.replica (subst (λ n. l.has_opened n a.replica ≡ true) (eqb-true g (suc h) is) turn.0)
        ]
        acted h x false is m = k.acted h x m

    turn_keeps : (t : Turn) (rest : ℕ → List Act) → ((h : ℕ) → with_turn done t h ++ rest h ≡ acts_in h turns) → IsTurn f l t → Kept (turned f l t) (with_turn done t)
    turn_keeps (Opens g r q) rest whole turn = opens_keeps g r q (rest g) (whole g) turn
    turn_keeps (Steps g a) rest whole turn = steps_keeps g a turn

  turn_acts : (done : ℕ → List Act) (t : Turn) (these : List Turn) (h : ℕ) → with_turn done t h ++ acts_in h these ≡ done h ++ acts_in h (t ∷ these)
  turn_acts done (Opens g r q) these h = refl
  turn_acts done (Steps g a) these h = go (eqb g h)
    where
      go : (b : Bool) → cond b (done h ++ (a ∷ [])) (done h) ++ acts_in h these ≡ done h ++ cond b (a ∷ acts_in h these) (acts_in h these)
      go true = append_assoc (done h) (a ∷ []) (acts_in h these)
      go false = refl

  turns_keep : (these rest : List Turn) (l : Life) (done : ℕ → List Act) → ((h : ℕ) → done h ++ acts_in h (these ++ rest) ≡ acts_in h turns) → IsLife f l these → Kept l done → Kept (lived f l these) (λ h. done h ++ acts_in h these)
  turns_keep [] rest l done whole life k = subst (λ d. Kept l d) (λ t. λ h. sym (append-nil (done h)) t) k
  turns_keep (t ∷ these) rest l done whole life k =
      let next : Kept (turned f l t) (with_turn done t) = turn_keeps l done k t (λ h. acts_in h (these ++ rest)) (λ h. turn_acts done t (these ++ rest) h ∙ whole h) life.0 in
      subst (λ d. Kept (lived f (turned f l t) these) d) (λ i. λ h. turn_acts done t these h i)
      (turns_keep these rest (turned f l t) (with_turn done t) (λ h. turn_acts done t (these ++ rest) h ∙ whole h) life.1 next)

  at_birth : (h : ℕ) (b : Bool) → eqb h 0 ≡ b → Follows h (opening (opened start)) (λ r. b) []
  at_birth h true is = record {
    run = tt;
    sent = refl;
    same = λ r o. subst (λ n. fresh_state (opened start) ≡ fresh_state (opened (base_of n))) (sym (eqb-true h 0 is)) refl;
    fresh = λ r n. refl;
    idle = λ r n. refl;
  }
  at_birth h false is = record { run = tt; sent = refl; same = λ r o. absurd (false≢true o); fresh = λ r n. refl; idle = λ r n. refl }

  kept_at_birth : Kept (birth start) (λ h. [])
  kept_at_birth = record { each = λ h. at_birth h (eqb h 0) refl; sealed = λ h r o. absurd (let is = eqb-true (suc h) 0 o in omega arith); acted = λ h a m. absurd m }

  -- at any time each generation is a run from its opening map
  pub kept_at : (before rest : List Turn) → before ++ rest ≡ turns → IsLife f (birth start) turns → Kept (lived f (birth start) before) (λ h. acts_in h before)
  kept_at before rest whole life =
      turns_keep before rest (birth start) (λ h. []) (λ h. ap (λ ts. acts_in h ts) whole) (life_parts f before rest (birth start) (subst (λ ts. IsLife f (birth start) ts) (sym whole) life)).0 kept_at_birth

  -- The other way.

  lived_more : (before : List Turn) (t : Turn) (l : Life) → turned f (lived f l before) t ≡ lived f l (before ++ (t ∷ []))
  lived_more [] t l = refl
  lived_more (u ∷ before) t l = lived_more before t (turned f l u)

  acts_more : (before : List Turn) (t : Turn) (h : ℕ) → with_turn (λ n. acts_in n before) t h ≡ acts_in h (before ++ (t ∷ []))
  acts_more before t h = sym (append-nil (with_turn (λ n. acts_in n before) t h)) ∙ turn_acts (λ n. acts_in n before) t [] h ∙ sym (acts_both h before (t ∷ []))

  module _ (runs : (g : ℕ) → IsRun (f g) (first_of g) (acts_in g turns)) (ready : (before rest : List Turn) (t : Turn) → before ++ (t ∷ rest) ≡ turns → IsReady start f turns before t) where
    turn_of : (before rest : List Turn) (t : Turn) → before ++ (t ∷ rest) ≡ turns → Kept (lived f (birth start) before) (λ h. acts_in h before) → IsReady start f turns before t → IsTurn f (lived f (birth start) before) t
    turn_of before rest (Opens g r q) whole k y = (y.0, y.1, subst (λ s. is_closed s.store ≡ true) (sym ((k.each g).same q y.1)) y.2)
    turn_of before rest (Steps g a) whole k y =
        let parts : acts_in g before ++ (a ∷ acts_in g rest) ≡ acts_in g turns =
        ap (λ b. acts_in g before ++ cond b (a ∷ acts_in g rest) (acts_in g rest)) (sym (same_refl g)) ∙ sym (acts_both g before (Steps g a ∷ rest)) ∙ ap (λ ts. acts_in g ts) whole in
        let now = (run_parts (f g) (acts_in g before) (a ∷ acts_in g rest) (first_of g) (subst (IsRun (f g) (first_of g)) (sym parts) (runs g))).1.0 in
        let e = (k.each g) in (
          y,
          record {
            replica = now.replica;
            step = subst (λ s. IsStep (f g) a.replica s a.event a.done) (sym (e.same a.replica y)) now.step;
            there = subst (λ ss. IsThere ss a.event) (sym e.sent) now.there;
          },
        )

    make : (these before : List Turn) → before ++ these ≡ turns → Kept (lived f (birth start) before) (λ h. acts_in h before) → IsLife f (lived f (birth start) before) these
    make [] before whole k = tt
    make (t ∷ these) before whole k =
        let turn = turn_of before these t whole k (ready before these t whole) in
        let further : (before ++ (t ∷ [])) ++ these ≡ turns = append_assoc before (t ∷ []) these ∙ whole in
        let acts : (h : ℕ) → with_turn (λ n. acts_in n before) t h ++ acts_in h these ≡ acts_in h turns =
        (λ h. turn_acts (λ n. acts_in n before) t these h ∙ sym (acts_both h before (t ∷ these)) ∙ ap (λ ts. acts_in h ts) whole) in
        let next : Kept (turned f (lived f (birth start) before) t) (with_turn (λ n. acts_in n before) t) = turn_keeps (lived f (birth start) before) (λ h. acts_in h before) k t (λ h. acts_in h these) acts turn in
        let there : Kept (lived f (birth start) (before ++ (t ∷ []))) (λ h. acts_in h (before ++ (t ∷ []))) =
        subst (λ l. Kept l (λ h. acts_in h (before ++ (t ∷ [])))) (lived_more before t (birth start)) (subst (λ d. Kept (turned f (lived f (birth start) before) t) d) (λ i. λ h. acts_more before t h i) next) in
        (turn, subst (λ l. IsLife f l these) (sym (lived_more before t (birth start))) (make these (before ++ (t ∷ [])) further there))

    pub life_from : IsLife f (birth start) turns
    life_from = make turns [] refl kept_at_birth

pub runs_make_lives_lem : RunsMakeLives
runs_make_lives_lem start f sizes turns runs ready = life_from start f sizes turns runs ready

pub one_opening_lem : OneOpening
one_opening_lem start f sizes turns life before rest g r q whole =
    let k = kept_at start f sizes turns before (Opens g r q ∷ rest) whole life in
    let turn = (life_parts f before (Opens g r q ∷ rest) (birth start) (subst (λ ts. IsLife f (birth start) ts) (sym whole) life)).1.0 in
    knows start f sizes turns (lived f (birth start) before) (λ h. acts_in h before) k g q (acts_in g (Opens g r q ∷ rest)) (sym (acts_both g before (Opens g r q ∷ rest)) ∙ ap (λ ts. acts_in g ts) whole) turn.1 turn.2

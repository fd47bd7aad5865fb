-- From a world that a beginning of each replica's entries leaves, steps lead to what all the entries leave.
use Rattle.std.proofs.Common.{◌≡◌, ◌⊎◌, ℕ, Bool, true, false, cond, eqb, inl, inr, List, [], ◌∷◌, ◌++◌, refl, sym, ap, subst, ◌∙◌}
use Rattle.std.proofs.lemmas.Bool.{eq-eqb, eqb-true}
use Rattle.ep_rules.specs.Journals.{Entry, left, Scheduled, of, act_of, acts_of}
use Rattle.ep_rules.specs.States.{State}
use Rattle.ep_rules.specs.Steps.{Event, Propose, Handle, GiveUp, Recover, Execute, Sent, IsStep, leaves, sends}
use Rattle.ep_rules.specs.Worlds.{World, Act, In, IsThere, Happens, moved, IsRun, ends}
use Rattle.ep_rules.proofs.Merged.{in_left, in_right, in_split}
use Rattle.ep_node.specs.Crashes.{IsBeginning}

-- what holds at one replica, and elsewhere, holds of each
each : (r : ℕ) (P : ℕ → Bool → Type 0) → P r true → ((q : ℕ) → eqb r q ≡ false → P q false) → (q : ℕ) → P q (eqb r q)
each r P here there q = go (eqb r q) refl
  where
    go : (b : Bool) → eqb r q ≡ b → P q b
    go true e = subst (λ k. P k true) (eqb-true r q e) here
    go false e = there q e

there_more : (sent more : List Sent) → ((m : Sent) → In m sent → In m more) → (e : Event) → IsThere sent e → IsThere more e
there_more sent more sub (Propose client request c seen spared) h = tt
there_more sent more sub (Handle m) h = sub m.sent h
there_more sent more sub (GiveUp i) h = tt
there_more sent more sub (Recover i) h = tt
there_more sent more sub (Execute root) h = tt

-- a beginning of a list has its first element, or nothing
first_of : {X : Type 0} (p : List X) (x : X) (xs : List X) → IsBeginning p (x ∷ xs) → (p ≡ []) ⊎ ((rest : List X) × (p ≡ x ∷ rest) × IsBeginning rest xs)
first_of [] x xs b = inl refl
first_of {X} (y ∷ ys) x xs b = inr (
  ys,
  (let all : y ∷ (ys ++ b.0) ≡ x ∷ xs = b.1 in let is : y ≡ x = cc in ap (λ (z : X). z ∷ ys) is),
  (b.0, (let all : y ∷ (ys ++ b.0) ≡ x ∷ xs = b.1 in cc)),
)

none_of : {X : Type 0} (p : List X) → IsBeginning p [] → p ≡ []
none_of [] b = refl
none_of (y ∷ ys) b = absurd (let all : y ∷ (ys ++ b.0) ≡ [] = b.1 in cc)

module _ (f : ℕ) where
  -- all that entries send is among these
  abbrev AreSent : List Sent → ℕ → State → List Entry → Type 0
  AreSent sent q s [] = Unit {0}
  AreSent sent q s (e ∷ es) = ((m : Sent) → In m (sends f q s e.event) → In m sent) × AreSent sent q (leaves f q s e.event e.done) es

  sent_more : (sent more : List Sent) (q : ℕ) (s : State) (es : List Entry) → AreSent sent q s es → AreSent (sent ++ more) q s es
  sent_more sent more q s [] h = tt
  sent_more sent more q s (e ∷ es) h = (λ m k. in_left m sent more (h.0 m k), sent_more sent more q (leaves f q s e.event e.done) es h.1)

  -- w has all that v has, and these entries of each replica more
  record IsAhead (w v : World) (more : ℕ → List Entry) : Type 0 where
    same : (q : ℕ) → left f q (v.states q) (more q) ≡ w.states q
    sent : (m : Sent) → In m v.sent → In m w.sent
    are : (q : ℕ) → AreSent w.sent q (v.states q) (more q)

  is_ahead : (these : List Scheduled) (v : World) → IsAhead (ends f v (acts_of these)) v (λ q. of q these)
  is_ahead [] v = record { same = λ q. refl; sent = λ m k. k; are = λ q. tt }
  is_ahead (a ∷ these) v =
      let w : World = ends f (moved f v (act_of a)) (acts_of these) in
      let h = is_ahead these (moved f v (act_of a)) in
      record {
        same = λ q. go q (eqb a.replica q) (h.same q);
        sent = λ m k. h.sent m (in_left m v.sent (sends f a.replica (v.states a.replica) a.entry.event) k);
        are = λ q. now q (eqb a.replica q) refl (λ m k. h.sent m (in_right m v.sent (sends f a.replica (v.states a.replica) a.entry.event) k)) (h.are q);
      }
    where
      go : (q : ℕ) (b : Bool) → left f q (cond b (leaves f q (v.states q) a.entry.event a.entry.done) (v.states q)) (of q these) ≡ (ends f (moved f v (act_of a)) (acts_of these)).states q →
          left f q (v.states q) (cond b (a.entry ∷ of q these) (of q these)) ≡ (ends f (moved f v (act_of a)) (acts_of these)).states q
      go q true h = h
      go q false h = h

      now : (q : ℕ) (b : Bool) → eqb a.replica q ≡ b → ((m : Sent) → In m (sends f a.replica (v.states a.replica) a.entry.event) → In m (ends f (moved f v (act_of a)) (acts_of these)).sent) →
          AreSent (ends f (moved f v (act_of a)) (acts_of these)).sent q (cond b (leaves f q (v.states q) a.entry.event a.entry.done) (v.states q)) (of q these) →
          AreSent (ends f (moved f v (act_of a)) (acts_of these)).sent q (v.states q) (cond b (a.entry ∷ of q these) (of q these))
      now q true e all h = (subst (λ r. (m : Sent) → In m (sends f r (v.states r) a.entry.event) → In m (ends f (moved f v (act_of a)) (acts_of these)).sent) (eqb-true a.replica q e) all, h)
      now q false e all h = h

  pub record GoesOn (w v : World) : Type 0 where
    pub late : List Act
    pub run : IsRun f w late
    pub same : (q : ℕ) → (ends f w late).states q ≡ v.states q

  -- one entry of the run

  module _ (a : Scheduled) (rest : List Scheduled) (w v : World) (more : ℕ → List Entry) (h : IsAhead w v more) where
    abbrev r : ℕ
    r = a.replica

    abbrev next : World
    next = moved f v (act_of a)

    -- which w has
    module _ (es : List Entry) (is : more r ≡ a.entry ∷ es) where
      abbrev fewer : ℕ → List Entry
      fewer = λ q. cond (eqb r q) es (more q)

      still : IsAhead w next fewer
      still = record {
        same = each r (λ q b. left f q (cond b (leaves f q (v.states q) a.entry.event a.entry.done) (v.states q)) (cond b es (more q)) ≡ w.states q)
            (ap (left f r (v.states r)) (sym is) ∙ h.same r) (λ q e. h.same q);
        sent = λ m k. elim (in_split m v.sent (sends f r (v.states r) a.entry.event) k) [ inl old ↦ h.sent m old | inr new ↦ (subst (AreSent w.sent r (v.states r)) is (h.are r)).0 m new ];
        are = each r (λ q b. AreSent w.sent q (cond b (leaves f q (v.states q) a.entry.event a.entry.done) (v.states q)) (cond b es (more q)))
            (subst (AreSent w.sent r (v.states r)) is (h.are r)).1 (λ q e. h.are q);
      }

      begin : IsBeginning es (of r rest) → ((q : ℕ) → IsBeginning (more q) (of q (a ∷ rest))) → (q : ℕ) → IsBeginning (fewer q) (of q rest)
      begin mine begins = λ q. each r (λ p b. IsBeginning (more p) (cond b (a.entry ∷ of p rest) (of p rest)) → IsBeginning (cond b es (more p)) (of p rest)) (λ b. mine) (λ p e b. b) q (begins q)

    -- which it hasn't
    module _ (none : more r ≡ []) (can : Happens f v (act_of a)) where
      one : v.states r ≡ w.states r
      one = ap (left f r (v.states r)) (sym none) ∙ h.same r

      happens : Happens f w (act_of a)
      happens = record {
        replica = can.replica;
        step = subst (λ s. IsStep f r s a.entry.event a.entry.done) one can.step;
        there = there_more v.sent w.sent h.sent a.entry.event can.there;
      }

      both : IsAhead (moved f w (act_of a)) next more
      both = record {
        same = each r (λ q b. left f q (cond b (leaves f q (v.states q) a.entry.event a.entry.done) (v.states q)) (more q) ≡ cond b (leaves f q (w.states q) a.entry.event a.entry.done) (w.states q))
            (ap (left f r (leaves f r (v.states r) a.entry.event a.entry.done)) none ∙ ap (λ s. leaves f r s a.entry.event a.entry.done) one) (λ q e. h.same q);
        sent = λ m k. elim (in_split m v.sent (sends f r (v.states r) a.entry.event) k) [
          | inl old ↦ in_left m w.sent (sends f r (w.states r) a.entry.event) (h.sent m old)
          | inr new ↦ in_right m w.sent (sends f r (w.states r) a.entry.event) (subst (λ s. In m (sends f r s a.entry.event)) one new)
        ];
        are = each r (λ q b. AreSent (w.sent ++ sends f r (w.states r) a.entry.event) q (cond b (leaves f q (v.states q) a.entry.event a.entry.done) (v.states q)) (more q))
            (subst (AreSent (w.sent ++ sends f r (w.states r) a.entry.event) r (leaves f r (v.states r) a.entry.event a.entry.done)) (sym none) tt)
            (λ q e. sent_more w.sent (sends f r (w.states r) a.entry.event) q (v.states q) (more q) (h.are q));
      }

      others : ((q : ℕ) → IsBeginning (more q) (of q (a ∷ rest))) → (q : ℕ) → IsBeginning (more q) (of q rest)
      others begins = λ q. each r (λ p b. IsBeginning (more p) (cond b (a.entry ∷ of p rest) (of p rest)) → IsBeginning (more p) (of p rest))
          (λ b. subst (λ es. IsBeginning es (of r rest)) (sym none) (of r rest, refl)) (λ p e b. b) q (begins q)

  on_from : (rest : List Scheduled) (w v : World) (more : ℕ → List Entry) → IsRun f v (acts_of rest) → IsAhead w v more → ((q : ℕ) → IsBeginning (more q) (of q rest)) → GoesOn w (ends f v (acts_of rest))
  on_from [] w v more run h begins =
      record { late = []; run = tt; same = λ q. sym (h.same q) ∙ ap (left f q (v.states q)) (none_of (more q) (begins q)) }
  on_from (a ∷ rest) w v more run h begins =
      elim (first_of (more a.replica) a.entry (of a.replica rest) (subst (λ b. IsBeginning (more a.replica) (cond b (a.entry ∷ of a.replica rest) (of a.replica rest))) (eq-eqb a.replica a.replica refl) (begins a.replica))) [
        | inl none ↦ (
            let t = on_from rest (moved f w (act_of a)) (moved f v (act_of a)) more run.1 (both a rest w v more h none run.0) (others a rest w v more h none run.0 begins) in
            record { late = act_of a ∷ t.late; run = (happens a rest w v more h none run.0, t.run); same = t.same })
        | inr t ↦ on_from rest w (moved f v (act_of a)) (fewer a rest w v more h t.0 t.1) run.1 (still a rest w v more h t.0 t.1) (begin a rest w v more h t.0 t.1 t.2 begins)
      ]

  pub goes_on : (part all : List Scheduled) (v : World) → IsRun f v (acts_of all) → ((q : ℕ) → IsBeginning (of q part) (of q all)) → GoesOn (ends f v (acts_of part)) (ends f v (acts_of all))
  goes_on part all v run begins = on_from all (ends f v (acts_of part)) v (λ q. of q part) run (is_ahead part v) begins

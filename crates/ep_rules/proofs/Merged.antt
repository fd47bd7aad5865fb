-- The schedule of matched local runs is a run of the world.
use Rattle.std.proofs.Common.{◌≡◌, ℕ, zero, suc, ◌<◌, Bool, true, false, cond, eqb, ◌⊎◌, inl, inr, Some, List, [], ◌∷◌, ◌++◌, slice_get, refl, sym, ap, subst, ◌∙◌, arith, append_assoc}
use Rattle.std.proofs.lemmas.Bool.{eq-eqb, eqb-true, cases_lt}
use Rattle.ep_base.specs.Quorums.{size}
use Rattle.ep_rules.specs.Steps.{Frame, Event, Propose, Handle, GiveUp, Recover, Execute, Sent, leaves}
use Rattle.ep_rules.specs.Worlds.{World, opening, In, IsThere, moved, IsRun}
use Rattle.ep_rules.specs.Journals.{Entry, messages_of, AreSteps, AreMarked, AreNumbered, AreLocalRuns, Journals, IsMatched, Scheduled, of, Rises, IsSchedule, act_of, acts_of}
use Rattle.ep_rules.specs.Merging.{MergedIsARun}
use Rattle.ep_rules.specs.OneMap.{Store}

-- membership
pub in_left : {X : Type 0} (x : X) (xs ys : List X) → In x xs → In x (xs ++ ys)
in_left x [] ys h = absurd h
in_left x (y ∷ xs) ys (inl e) = inl e
in_left x (y ∷ xs) ys (inr h) = inr (in_left x xs ys h)

pub in_right : {X : Type 0} (x : X) (xs ys : List X) → In x ys → In x (xs ++ ys)
in_right x [] ys h = h
in_right x (y ∷ xs) ys h = inr (in_right x xs ys h)

pub in_split : {X : Type 0} (x : X) (xs ys : List X) → In x (xs ++ ys) → In x xs ⊎ In x ys
in_split x [] ys h = inr h
in_split x (y ∷ xs) ys (inl e) = inl (inl e)
in_split x (y ∷ xs) ys (inr h) = elim (in_split x xs ys h) [ inl k ↦ inl (inr k) | inr k ↦ inr k ]

pub at_in : {X : Type 0} (xs : List X) (k : ℕ) (x : X) → slice_get xs k ≡ Some x → In x xs
at_in [] k x e = absurd (cc)
at_in (y ∷ xs) zero x e = inl (cc)
at_in (y ∷ xs) (suc k) x e = inr (at_in xs k x e)

pub in_at : {X : Type 0} (xs : List X) (x : X) → In x xs → (k : ℕ) × (slice_get xs k ≡ Some x)
in_at [] x h = absurd h
in_at (y ∷ xs) x (inl e) = (0, ap Some e)
in_at (y ∷ xs) x (inr h) = let t = in_at xs x h in (suc t.0, t.1)

pub in_messages : (m : Frame) (ms : List Frame) → In m ms → In m.sent (messages_of ms)
in_messages m [] h = absurd h
in_messages m (x ∷ ms) (inl e) = inl (ap (λ z. z.sent) e)
in_messages m (x ∷ ms) (inr h) = inr (in_messages m ms h)

-- what a frame is marked with
marked_stamp : (e : Entry) (k : ℕ) (ms : List Frame) (m : Frame) → AreMarked e k ms → In m ms → m.stamp ≡ e.stamp
marked_stamp e k [] m a h = absurd h
marked_stamp e k (x ∷ ms) m a (inl i) = subst (λ z. z.stamp ≡ e.stamp) i a.2
marked_stamp e k (x ∷ ms) m a (inr h) = marked_stamp e (suc k) ms m a.3 h

pub numbered_stamp : (n last : ℕ) (es : List Entry) (e : Entry) (m : Frame) → AreNumbered n last es → In e es → In m e.out → m.stamp ≡ e.stamp
numbered_stamp n last [] e m a h k = absurd h
numbered_stamp n last (x ∷ es) e m a (inl i) k = marked_stamp e 0 e.out m (subst (λ z. AreMarked z 0 z.out) i a.2) k
numbered_stamp n last (x ∷ es) e m a (inr h) k = numbered_stamp (suc n) x.stamp es e m a.3 h k

-- a replica's entries in a schedule
pub of_in : (r : ℕ) (e : Entry) (these : List Scheduled) → In e (of r these) → (a : Scheduled) × (In a these) × (a.replica ≡ r) × (a.entry ≡ e)
of_in r e [] h = absurd h
of_in r e (a ∷ these) h = go (eqb a.replica r) refl h (of_in r e these)
  where
    go : (b : Bool) → eqb a.replica r ≡ b → In e (cond b (a.entry ∷ of r these) (of r these)) → (In e (of r these) → (a : Scheduled) × (In a these) × (a.replica ≡ r) × (a.entry ≡ e)) → (b : Scheduled) × (In b (a ∷ these)) × (b.replica ≡ r) × (b.entry ≡ e)
    go true q (inl i) rec = (a, inl refl, eqb-true a.replica r q, i)
    go true q (inr k) rec = let t = rec k in (t.0, inr t.1, t.2, t.3)
    go false q k rec = let t = rec k in (t.0, inr t.1, t.2, t.3)

pub in_of : (a : Scheduled) (these : List Scheduled) → In a these → In a.entry (of a.replica these)
in_of a [] h = absurd h
in_of a (x ∷ these) (inl i) = subst (λ (z : Scheduled). In z.entry (of z.replica (x ∷ these))) i (subst (λ b. In x.entry (cond b (x.entry ∷ of x.replica these) (of x.replica these))) (sym (eq-eqb x.replica x.replica refl)) (inl refl))
in_of a (x ∷ these) (inr h) = go (eqb x.replica a.replica) (in_of a these h)
  where
    go : (b : Bool) → In a.entry (of a.replica these) → In a.entry (cond b (x.entry ∷ of a.replica these) (of a.replica these))
    go true k = inr k
    go false k = k

-- a journal that holds an entry is a replica's
pub in_journal : (base : Store) → (f : ℕ) (journal : Journals) (r : ℕ) (e : Entry) → AreLocalRuns base f journal → In e (journal r) → r < size f
in_journal base f journal r e local h = elim (cases_lt r (size f)) [ inl lt ↦ lt | inr ge ↦ absurd (subst (λ es. In e es) (local.others r ge) h) ]

-- what comes earlier stands before
pub in_before : (before rest : List Scheduled) (a b : Scheduled) → Rises (before ++ (a ∷ rest)) → In b (before ++ (a ∷ rest)) → b.entry.stamp < a.entry.stamp → In b before
in_before [] rest a b rises (inl i) lt = absurd (let e : a.entry.stamp ≡ b.entry.stamp = ap (λ z. z.entry.stamp) i in omega arith)
in_before [] rest a b rises (inr h) lt = absurd (let p = rises.0 b h in omega arith)
in_before (x ∷ before) rest a b rises (inl i) lt = inl i
in_before (x ∷ before) rest a b rises (inr h) lt = inr (in_before before rest a b rises.1 h lt)

module _ (base : Store) (f : ℕ) (journal : Journals) (whole : List Scheduled) (local : AreLocalRuns base f journal) (matched : IsMatched journal) (scheduled : IsSchedule journal whole) where
  -- all that these sent is there
  abbrev AreSent : List Scheduled → World → Type 0
  AreSent before w = (b : Scheduled) (m : Frame) → In b before → In m b.entry.out → In m.sent w.sent

  stands : (before rest : List Scheduled) (a : Scheduled) → before ++ (a ∷ rest) ≡ whole → In a.entry (journal a.replica)
  stands before rest a is = subst (λ z. In a.entry z) (scheduled.0 a.replica) (in_of a whole (subst (λ z. In a z) is (in_right a before (a ∷ rest) (inl refl))))

  there : (before rest : List Scheduled) (a : Scheduled) (w : World) → before ++ (a ∷ rest) ≡ whole → AreSent before w → (e : Event) → a.entry.event ≡ e → IsThere w.sent e
  there before rest a w is sent (Propose client request c seen spared) e = tt
  there before rest a w is sent (GiveUp i) e = tt
  there before rest a w is sent (Recover i) e = tt
  there before rest a w is sent (Execute root) e = tt
  there before rest a w is sent (Handle m) e =
      let reported = matched a.replica a.entry m (stands before rest a is) e in
      let from = reported.0 in
      let out : In m from.entry.out = at_in from.entry.out m.place m from.frame in
      let origin = of_in m.sent.from from.entry whole (subst (λ z. In from.entry z) (sym (scheduled.0 m.sent.from)) from.stands) in
      let stamp : m.stamp ≡ from.entry.stamp = numbered_stamp 1 0 (journal m.sent.from) from.entry m (local.local m.sent.from).0 from.stands out in
      let same : origin.0.entry.stamp ≡ from.entry.stamp = ap (λ z. z.stamp) origin.3 in
      let lt : origin.0.entry.stamp < a.entry.stamp = (let l : m.stamp < a.entry.stamp = reported.1 in omega arith) in
      let first : In origin.0 before = in_before before rest a origin.0 (subst Rises (sym is) scheduled.1) (subst (λ z. In origin.0 z) (sym is) origin.1) lt in
      sent origin.0 m first (subst (λ (z : Entry). In m z.out) (sym origin.3) out)

  steps_next : (w : World) (a : Scheduled) (rest : List Scheduled) (r : ℕ) → AreSteps f r (w.states r) (of r (a ∷ rest)) → AreSteps f r ((moved f w (act_of a)).states r) (of r rest)
  steps_next w a rest r h = go (eqb a.replica r) h
    where
      go : (b : Bool) → AreSteps f r (w.states r) (cond b (a.entry ∷ of r rest) (of r rest)) → AreSteps f r (cond b (leaves f r (w.states r) a.entry.event a.entry.done) (w.states r)) (of r rest)
      go true k = k.1
      go false k = k

  sent_next : (before : List Scheduled) (a : Scheduled) (w : World) (out : List Sent) → messages_of a.entry.out ≡ out → AreSent before w →
      (b : Scheduled) (m : Frame) → In b (before ++ (a ∷ [])) → In m b.entry.out → In m.sent (w.sent ++ out)
  sent_next before a w out is sent b m h k = elim (in_split b before (a ∷ []) h) [
    | inl old ↦ in_left m.sent w.sent out (sent b m old k)
    | inr new ↦ in_right m.sent w.sent out (subst (λ ms. In m.sent ms) is (in_messages m a.entry.out (subst (λ (z : Scheduled). In m z.entry.out) (elim new [ inl i ↦ sym i | inr isnt ↦ absurd isnt ]) k)))
  ]

  unrolls : (before rest : List Scheduled) (w : World) → before ++ rest ≡ whole → AreSent before w → ((r : ℕ) → AreSteps f r (w.states r) (of r rest)) → IsRun f w (acts_of rest)
  unrolls before [] w is sent steps = tt
  unrolls before (a ∷ rest) w is sent steps =
      let mine : AreSteps f a.replica (w.states a.replica) (a.entry ∷ of a.replica rest) = subst (λ b. AreSteps f a.replica (w.states a.replica) (cond b (a.entry ∷ of a.replica rest) (of a.replica rest))) (eq-eqb a.replica a.replica refl) (steps a.replica) in (
        record {
          replica = in_journal base f journal a.replica a.entry local (stands before rest a is);
          step = mine.0.step;
          there = there before rest a w is sent a.entry.event refl;
        },
        unrolls (before ++ (a ∷ [])) rest (moved f w (act_of a)) (append_assoc before (a ∷ []) rest ∙ is) (sent_next before a w _ mine.0.sent sent) (λ r. steps_next w a rest r (steps r)),
      )

pub merged_is_a_run_lem : MergedIsARun
merged_is_a_run_lem base f journal schedule local matched scheduled =
    unrolls base f journal schedule local matched scheduled [] schedule (opening base) refl (λ b m h. absurd h) (λ r. subst (λ es. AreSteps f r ((opening base).states r) es) (sym (scheduled.0 r)) (local.local r).1)

-- The next entry of journals is the first one of their schedule.
use Rattle.std.proofs.Common.{◌≡◌, ◌≢◌, ℕ, zero, suc, ◌+◌, ◌<◌, ◌≤◌, Bool, true, false, cond, eqb, ltb, ◌||◌, option_map, slice_range, filter, ◌⊎◌, inl, inr, Option, Some, None, List, [], ◌∷◌, ◌++◌, length, length-append, length-set, drop, set, get_or, replicate, append-nil, append_assoc, get_or-set_same, get_or-set_other, refl, sym, ap, subst, ◌∙◌, arith}
use Rattle.std.proofs.lemmas.Bool.{ltb-true, ltb-false, cases_eq, cases_lt}
use Rattle.ep_rules.specs.Worlds.{In}
use Rattle.std.proofs.lemmas.List.{get_or-replicate, length-replicate}
use Rattle.std.proofs.Math.ListN.{get_or-eq_default}
use Rattle.std.proofs.Math.Seq.{drop-nil}
use Rattle.std.proofs.lemmas.List.Folds.{drop_split}
use Rattle.std.proofs.lemmas.Option.{same_Some}
use Rattle.ep_base.specs.Quorums.{size}
use Rattle.ep_rules.specs.Journals.{Entry, Journals, Scheduled, of, Precedes, Rises, IsSchedule, AreNumbered, AreLocalRuns}
use Rattle.ep_rules.proofs.Merged.{of_in}
use Rattle.ep_rules.proofs.Sorted.{of_first, of_skip}
use Rattle.ep_rules.proofs.OneSchedule.{heads, tails}
use Rattle.ep_journal.specs.Entries.{entry_of, entries_of}
use Rattle.ep_journal.specs.declared.entry.Entry.{Entry as Written}
use Rattle.ep_audit.specs.Turns.{first_turn, earlier, takes, taken, all_taken, taken_of, first_taken, least_turn, least_of, rests, AreFirst}
use Rattle.ep_audit.specs.Verdicts.{places_of}
use Rattle.ep_audit.specs.declared.entry_place.EntryPlace.{EntryPlace}
use Rattle.ep_rules.specs.OneMap.{Store}

-- t is the first entry of its replica, and no first entry of a replica below n is earlier
pub record IsLeastTurn (n : ℕ) (journal : Journals) (t : EntryPlace) : Type 0 where
  pub below : t.replica < n
  pub first : first_turn t.replica (journal t.replica) ≡ Some t
  pub least : (q : ℕ) (u : EntryPlace) → q < n → first_turn q (journal q) ≡ Some u → (t.stamp < u.stamp) ⊎ ((t.stamp ≡ u.stamp) × (t.replica ≤ q))

abbrev pub Reports : ℕ → Journals → Option EntryPlace → Type 0
Reports n journal None = (q : ℕ) → q < n → journal q ≡ []
Reports n journal (Some t) = IsLeastTurn n journal t

none_first : (r : ℕ) (t : EntryPlace) (es : List Entry) → es ≡ [] → first_turn r es ≡ Some t → ⊥
none_first r t [] e h = cc
none_first r t (x ∷ es) e h = cc

stamp_here : (n q : ℕ) (u : EntryPlace) (x : Entry) (es : List Entry) (journal : Journals) → journal n ≡ x ∷ es → q ≡ n → first_turn q (journal q) ≡ Some u → x.stamp ≡ u.stamp
stamp_here n q u x es journal e same is =
    let t : EntryPlace = record { replica = n; number = x.number; stamp = x.stamp } in
    let k : Some t ≡ Some u = sym (ap (λ z. first_turn z (journal z)) same ∙ ap (first_turn n) e) ∙ is in
    ap (λ (z : EntryPlace). z.stamp) (same_Some t u k)

more : (n : ℕ) (journal : Journals) (o : Option EntryPlace) (es : List Entry) → journal n ≡ es → Reports n journal o → Reports (suc n) journal (earlier o (first_turn n es))
more n journal None [] e h = λ q lt. elim (cases_eq q n) [ inl is ↦ ap journal is ∙ e | inr ne ↦ h q (omega arith) ]
more n journal None (x ∷ es) e h = record {
  below = omega arith;
  first = ap (first_turn n) e;
  least = λ q u lt is. elim (cases_eq q n) [
    | inl same ↦ inr (stamp_here n q u x es journal e same is, omega arith)
    | inr ne ↦ absurd (none_first q u (journal q) (h q (omega arith)) is)
  ];
}
more n journal (Some t) [] e h = record {
  below = (let b = h.below in omega arith);
  first = h.first;
  least = λ q u lt is. elim (cases_eq q n) [
    | inl same ↦ absurd (none_first q u (journal q) (ap journal same ∙ e) is)
    | inr ne ↦ h.least q u (omega arith) is
  ];
}
more n journal (Some t) (x ∷ es) e h = go (ltb x.stamp t.stamp) refl
  where
    go : (b : Bool) → ltb x.stamp t.stamp ≡ b → Reports (suc n) journal (cond b (Some (record { replica = n; number = x.number; stamp = x.stamp })) (Some t))
    go true b =
        let lower : x.stamp < t.stamp = ltb-true x.stamp t.stamp b in
        record {
          below = omega arith;
          first = ap (first_turn n) e;
          least = λ q u lt is. elim (cases_eq q n) [
            | inl same ↦ inr (stamp_here n q u x es journal e same is, omega arith)
            | inr ne ↦ inl (let l = h.least q u (omega arith) is in omega arith)
          ];
        }
    go false b =
        let upper : t.stamp ≤ x.stamp = ltb-false x.stamp t.stamp b in
        let low : t.replica < n = h.below in
        record {
          below = omega arith;
          first = h.first;
          least = λ q u lt is. elim (cases_eq q n) [
            | inl same ↦ (let s = stamp_here n q u x es journal e same is in elim (cases_lt t.stamp u.stamp) [ inl l ↦ inl l | inr l ↦ inr (omega arith, omega arith) ])
            | inr ne ↦ h.least q u (omega arith) is
          ];
        }

pub least_is : (n : ℕ) (journal : Journals) → Reports n journal (least_turn n journal)
least_is zero journal = λ q lt. absurd (omega arith)
least_is (suc n) journal = more n journal (least_turn n journal) (journal n) refl (least_is n journal)

-- The schedule's next entry.

-- the journals go on after the entry of this turn
pub record Goes (journal later : Journals) (t : EntryPlace) : Type 0 where
  pub entry : Entry
  pub here : journal t.replica ≡ entry ∷ later t.replica
  pub number : entry.number ≡ t.number
  pub stamp : entry.stamp ≡ t.stamp
  pub others : (q : ℕ) → q ≢ t.replica → later q ≡ journal q

-- what is left of a schedule after the entry of this turn
pub record Behind (later : Journals) (t : EntryPlace) (schedule : List Scheduled) : Type 0 where
  pub rest : List Scheduled
  pub scheduled : IsSchedule later rest
  pub is : places_of schedule ≡ (t.replica, t.number) ∷ places_of rest

nil_cons : (x : Entry) (xs : List Entry) → [] ≡ x ∷ xs → ⊥
nil_cons x xs e = cc

module _ (n : ℕ) (journal later : Journals) (t : EntryPlace) (least : IsLeastTurn n journal t) (none : (q : ℕ) → n ≤ q → journal q ≡ []) (g : Goes journal later t) where
  -- no other replica's entry comes first
  not_other : (a : Scheduled) (xs : List Scheduled) → IsSchedule journal (a ∷ xs) → a.replica ≢ t.replica → ⊥
  not_other a xs h ne =
      let mine : journal a.replica ≡ a.entry ∷ of a.replica xs = sym (h.0 a.replica) ∙ of_first a a.replica xs refl in
      let below : a.replica < n = elim (cases_lt a.replica n) [ inl lt ↦ lt | inr ge ↦ absurd (nil_cons a.entry (of a.replica xs) (sym (none a.replica ge) ∙ mine)) ] in
      let l : (t.stamp < a.entry.stamp) ⊎ ((t.stamp ≡ a.entry.stamp) × (t.replica ≤ a.replica)) =
      least.least a.replica (record { replica = a.replica; number = a.entry.number; stamp = a.entry.stamp }) below (ap (first_turn a.replica) mine)
      in
      let own : of t.replica xs ≡ g.entry ∷ later t.replica = sym (of_skip a t.replica xs ne) ∙ h.0 t.replica ∙ g.here in
      let b = of_in t.replica g.entry xs (subst (In g.entry) (sym own) (inl refl)) in
      let p : Precedes a b.0 = h.1.0 b.0 b.1 in
      let r : b.0.replica ≡ t.replica = b.2 in
      let s : b.0.entry.stamp ≡ t.stamp = ap (λ (z : Entry). z.stamp) b.3 ∙ g.stamp in
      omega arith

  pub next_is : (schedule : List Scheduled) → IsSchedule journal schedule → Behind later t schedule
  next_is [] h = absurd (nil_cons g.entry (later t.replica) (h.0 t.replica ∙ g.here))
  next_is (a ∷ xs) h = elim (cases_eq a.replica t.replica) [
    | inl same ↦ (
        let e : a.entry ∷ of t.replica xs ≡ g.entry ∷ later t.replica = sym (of_first a t.replica xs same) ∙ h.0 t.replica ∙ g.here in
        let number : a.entry.number ≡ t.number = ap (λ (z : Entry). z.number) (heads a.entry g.entry (of t.replica xs) (later t.replica) e) ∙ g.number in
        record {
          rest = xs;
          scheduled = (
            λ q. elim (cases_eq q t.replica) [
              | inl is ↦ subst (λ z. of z xs ≡ later z) (sym is) (tails a.entry g.entry (of t.replica xs) (later t.replica) e)
              | inr ne ↦ sym (of_skip a q xs (λ k. ne (sym k ∙ same))) ∙ h.0 q ∙ sym (g.others q ne)
            ],
            h.1.1,
          );
          is = cc;
        }
        )
    | inr ne ↦ absurd (not_other a xs h ne)
  ]

-- journals without entries have the empty schedule
pub none_left : (journal : Journals) → ((q : ℕ) → journal q ≡ []) → (schedule : List Scheduled) → IsSchedule journal schedule → schedule ≡ []
none_left journal none [] h = refl
none_left journal none (a ∷ xs) h = absurd (nil_cons a.entry (of a.replica xs) (sym (none a.replica) ∙ sym (h.0 a.replica) ∙ of_first a a.replica xs refl))

-- What is left after some entries.

-- the first entry that is taken of these after k, whose numbers rise from n, is followed by what is taken after g
record NextTaken (all : Bool) (n k : ℕ) (xs : List Entry) (t : EntryPlace) : Type 0 where
  entry : Entry
  g : ℕ
  here : taken all (drop k xs) ≡ entry ∷ taken all (drop g xs)
  after : suc t.number ≡ n + g
  number : entry.number ≡ t.number
  stamp : entry.stamp ≡ t.stamp

next_taken : (all : Bool) (r n last k : ℕ) (xs : List Entry) (t : EntryPlace) → AreNumbered n last xs → first_turn r (taken all (drop k xs)) ≡ Some t → NextTaken all n k xs t
next_taken all r n last zero [] t a h = absurd (none_first r t [] refl h)
next_taken all r n last (suc k) [] t a h = absurd (none_first r t [] refl h)
next_taken all r n last (suc k) (x ∷ xs) t a h =
    let m = next_taken all r (suc n) x.stamp k xs t a.3 h in
    record { entry = m.entry; g = suc m.g; here = m.here; after = (let f = m.after in omega arith); number = m.number; stamp = m.stamp }
next_taken all r n last zero (x ∷ xs) t a h = go (takes all x.done) refl h (λ k. next_taken all r (suc n) x.stamp 0 xs t a.3 k)
  where
    go : (b : Bool) → takes all x.done ≡ b → first_turn r (cond b (x ∷ taken all xs) (taken all xs)) ≡ Some t → (first_turn r (taken all xs) ≡ Some t → NextTaken all (suc n) 0 xs t) → NextTaken all n 0 (x ∷ xs) t
    go true is k next =
        let same : ◌≡◌ {A = EntryPlace} (record { replica = r; number = x.number; stamp = x.stamp }) t = same_Some (record { replica = r; number = x.number; stamp = x.stamp }) t k in
        let number : x.number ≡ t.number = ap (λ (z : EntryPlace). z.number) same in
        record {
          entry = x;
          g = 1;
          here = ap (λ b. cond b (x ∷ taken all xs) (taken all xs)) is;
          after = (let first = a.0 in omega arith);
          number = number;
          stamp = ap (λ (z : EntryPlace). z.stamp) same;
        }
    go false is k next =
        let m = next k in
        record {
          entry = m.entry;
          g = suc m.g;
          here = ap (λ b. cond b (x ∷ taken all xs) (taken all xs)) is ∙ m.here;
          after = (let f = m.after in omega arith);
          number = m.number;
          stamp = m.stamp;
        }

pub goes : (all : Bool) (journal : Journals) (done : List ℕ) (t : EntryPlace) → AreNumbered 1 0 (journal t.replica) → first_turn t.replica (rests all journal done t.replica) ≡ Some t → t.replica < length done →
    Goes (rests all journal done) (rests all journal (set done t.replica t.number)) t
goes all journal done t numbered h lt =
    let r = t.replica in
    let m = next_taken all r 1 0 (get_or done r 0) (journal r) t numbered h in
    let n : t.number ≡ m.g = (let f = m.after in omega arith) in
    let later : rests all journal (set done r t.number) r ≡ taken all (drop m.g (journal r)) = ap (λ z. taken all (drop z (journal r))) (get_or-set_same done r t.number 0 lt ∙ n) in
    record {
      entry = m.entry;
      here = m.here ∙ ap (λ z. m.entry ∷ z) (sym later);
      number = m.number;
      stamp = m.stamp;
      others = λ q ne. ap (λ z. taken all (drop z (journal q))) (get_or-set_other done r q t.number 0 ne);
    }

-- how many entries the replicas below n have
abbrev pub left_below : ℕ → Journals → ℕ
left_below zero journal = 0
left_below (suc n) journal = length (journal n) + left_below n journal

same_left : (n : ℕ) (journal later : Journals) → ((q : ℕ) → q < n → later q ≡ journal q) → left_below n later ≡ left_below n journal
same_left zero journal later h = refl
same_left (suc n) journal later h = let a = ap length (h n (omega arith)) in let b = same_left n journal later (λ q lt. h q (omega arith)) in omega arith

pub left_falls : (n : ℕ) (journal later : Journals) (t : EntryPlace) → Goes journal later t → t.replica < n → left_below n later < left_below n journal
left_falls zero journal later t g lt = absurd (omega arith)
left_falls (suc n) journal later t g lt = elim (cases_eq t.replica n) [
  | inl is ↦ (
      let a : length (journal n) ≡ suc (length (later n)) = subst (λ z. length (journal z) ≡ suc (length (later z))) is (ap length g.here) in
      let b = same_left n journal later (λ q lower. g.others q (λ k. let j = k ∙ is in absurd (omega arith))) in
      omega arith
      )
  | inr ne ↦ (
      let a : length (later n) ≡ length (journal n) = ap length (g.others n (λ k. ne (sym k))) in
      let b = left_falls n journal later t g (omega arith) in
      omega arith
      )
]

-- The first entry after some.

first_is : (all : Bool) (r : ℕ) (es : List Written) → first_turn r (taken all (entries_of es)) ≡ option_map (λ (e : Written). record { replica = r; number = e.number; stamp = e.stamp }) (first_taken all es)
first_is all r [] = refl
first_is all r (e ∷ es) = go (takes all e.done) (first_is all r es)
  where
    go : (b : Bool) → first_turn r (taken all (entries_of es)) ≡ option_map (λ (e : Written). record { replica = r; number = e.number; stamp = e.stamp }) (first_taken all es) →
        first_turn r (cond b (entry_of e ∷ taken all (entries_of es)) (taken all (entries_of es))) ≡ option_map (λ (e : Written). record { replica = r; number = e.number; stamp = e.stamp }) (cond b (Some e) (first_taken all es))
    go true k = refl
    go false k = k

entries_dropped : (k : ℕ) (es : List Written) → drop k (entries_of es) ≡ entries_of (drop k es)
entries_dropped zero [] = refl
entries_dropped (suc k) [] = refl
entries_dropped zero (e ∷ es) = refl
entries_dropped (suc k) (e ∷ es) = entries_dropped k es

none_past : (k : ℕ) (es : List Written) → length es ≤ k → drop k es ≡ []
none_past zero [] le = refl
none_past (suc k) [] le = refl
none_past zero (e ∷ es) le = absurd (omega arith)
none_past (suc k) (e ∷ es) le = none_past k es (omega arith)

abbrev pub turn_by : ℕ → Written → EntryPlace
turn_by r e = record { replica = r; number = e.number; stamp = e.stamp }

-- the first entry that is taken after k
pub first_after : (all : Bool) (r k : ℕ) (es rest : List Written) (o : Option Written) → k ≤ length es → rest ≡ slice_range es k (length es) → o ≡ first_taken all rest →
    first_turn r (taken all (drop k (entries_of es))) ≡ option_map (turn_by r) o
first_after all r k es rest o le is found =
    let whole : drop k es ≡ rest = drop_split es k (length es) le ∙ ap (λ z. slice_range es k (length es) ++ z) (none_past (length es) es (omega arith)) ∙ append-nil (slice_range es k (length es)) ∙ sym is in
    ap (λ z. first_turn r (taken all z)) (entries_dropped k es ∙ ap entries_of whole) ∙ first_is all r rest ∙ ap (option_map (turn_by r)) (sym found)

pub none_after : (all : Bool) (r k : ℕ) (es : List Written) → length es ≤ k → first_turn r (taken all (drop k (entries_of es))) ≡ None
none_after all r k es le = ap (λ z. first_turn r (taken all z)) (entries_dropped k es ∙ ap entries_of (none_past k es le))

-- What is taken of a schedule.

taken_at : (all : Bool) (q : ℕ) (s : List Scheduled) → of q (taken_of all s) ≡ taken all (of q s)
taken_at all q [] = refl
taken_at all q (a ∷ s) = go (takes all a.entry.done) refl (eqb a.replica q) refl (taken_at all q s)
  where
    go : (b : Bool) → takes all a.entry.done ≡ b → (c : Bool) → eqb a.replica q ≡ c → of q (taken_of all s) ≡ taken all (of q s) →
        of q (cond b (a ∷ taken_of all s) (taken_of all s)) ≡ taken all (cond c (a.entry ∷ of q s) (of q s))
    go true t true e k = ap (λ c. cond c (a.entry ∷ of q (taken_of all s)) (of q (taken_of all s))) e ∙ ap (λ z. a.entry ∷ z) k ∙ sym (ap (λ b. cond b (a.entry ∷ taken all (of q s)) (taken all (of q s))) t)
    go true t false e k = ap (λ c. cond c (a.entry ∷ of q (taken_of all s)) (of q (taken_of all s))) e ∙ k
    go false t true e k = k ∙ sym (ap (λ b. cond b (a.entry ∷ taken all (of q s)) (taken all (of q s))) t)
    go false t false e k = k

pub in_taken : (all : Bool) (s : List Scheduled) (a : Scheduled) → In a (taken_of all s) → In a s
in_taken all [] a h = h
in_taken all (x ∷ s) a h = go (takes all x.entry.done) h (in_taken all s a)
  where
    go : (b : Bool) → In a (cond b (x ∷ taken_of all s) (taken_of all s)) → (In a (taken_of all s) → In a s) → In a (x ∷ s)
    go true (inl is) rec = inl is
    go true (inr k) rec = inr (rec k)
    go false k rec = inr (rec k)

rises_taken : (all : Bool) (s : List Scheduled) → Rises s → Rises (taken_of all s)
rises_taken all [] h = h
rises_taken all (x ∷ s) h = go (takes all x.entry.done) (rises_taken all s h.1)
  where
    go : (b : Bool) → Rises (taken_of all s) → Rises (cond b (x ∷ taken_of all s) (taken_of all s))
    go true rec = ((λ b k. h.0 b (in_taken all s b k)), rec)
    go false rec = rec

taken_schedule : (all : Bool) (journal : Journals) (s : List Scheduled) → IsSchedule journal s → IsSchedule (all_taken all journal) (taken_of all s)
taken_schedule all journal s h = ((λ q. taken_at all q s ∙ ap (taken all) (h.0 q)), rises_taken all s h.1)

-- a merge of all takes all
pub whole_taken : (s : List Scheduled) → taken_of true s ≡ s
whole_taken [] = refl
whole_taken (a ∷ s) = ap (λ z. a ∷ z) (whole_taken s)

-- A schedule that is under way.

-- what is made so far, and what is left, are the whole schedule
pub record Remains (all : Bool) (journal : Journals) (done : List ℕ) (made : List (ℕ × ℕ)) (schedule : List Scheduled) : Type 0 where
  pub rest : List Scheduled
  pub scheduled : IsSchedule (rests all journal done) rest
  pub whole : made ++ places_of rest ≡ places_of schedule

pub is_next : (n : ℕ) (journal : Journals) (o : Option EntryPlace) → o ≡ least_turn n journal → Reports n journal o
is_next n journal o e = subst (Reports n journal) (sym e) (least_is n journal)

-- none beyond the cluster
none_beyond : (all : Bool) (base : Store) (f : ℕ) (journal : Journals) (done : List ℕ) → AreLocalRuns base f journal → (q : ℕ) → size f ≤ q → rests all journal done q ≡ []
none_beyond all base f journal done runs q le = ap (λ z. taken all (drop (get_or done q 0) z)) (runs.others q le) ∙ ap (taken all) (drop-nil (get_or done q 0))

module _ (all : Bool) (base : Store) (f : ℕ) (journal : Journals) (runs : AreLocalRuns base f journal) (done : List ℕ) (long : length done ≡ size f) (t : EntryPlace) (e : Some t ≡ least_turn (size f) (rests all journal done)) where
  pub turn_is : IsLeastTurn (size f) (rests all journal done) t
  turn_is = is_next (size f) (rests all journal done) (Some t) e

  pub turn_below : t.replica < length done
  turn_below = let b = turn_is.below in omega arith

  pub turn_goes : Goes (rests all journal done) (rests all journal (set done t.replica t.number)) t
  turn_goes = goes all journal done t (runs.local t.replica).0 turn_is.first turn_below

  pub fewer_left : left_below (size f) (rests all journal (set done t.replica t.number)) < left_below (size f) (rests all journal done)
  fewer_left = left_falls (size f) (rests all journal done) (rests all journal (set done t.replica t.number)) t turn_goes turn_is.below

  pub remains_next : (made : List (ℕ × ℕ)) (schedule : List Scheduled) → Remains all journal done made schedule → Remains all journal (set done t.replica t.number) (made ++ ((t.replica, t.number) ∷ [])) schedule
  remains_next made schedule m =
      let b = next_is (size f) (rests all journal done) (rests all journal (set done t.replica t.number)) t turn_is (none_beyond all base f journal done runs) turn_goes m.rest m.scheduled in
      record {
        rest = b.rest;
        scheduled = b.scheduled;
        whole = append_assoc made ((t.replica, t.number) ∷ []) (places_of b.rest) ∙ ap (λ z. made ++ z) (sym b.is) ∙ m.whole;
      }

pub remains_first : (all : Bool) (f : ℕ) (journal : Journals) (done : List ℕ) (schedule : List Scheduled) → ((q : ℕ) → get_or done q 0 ≡ 0) → IsSchedule journal schedule → Remains all journal done [] (taken_of all schedule)
remains_first all f journal done schedule zeros h =
    let t = taken_schedule all journal schedule h in
    record {
      rest = taken_of all schedule;
      scheduled = ((λ q. t.0 q ∙ ap (λ k. taken all (drop k (journal q))) (sym (zeros q))), t.1);
      whole = refl;
    }

pub remains_all : (all : Bool) (base : Store) (f : ℕ) (journal : Journals) (done : List ℕ) (made : List (ℕ × ℕ)) (schedule : List Scheduled) → AreLocalRuns base f journal → None ≡ least_turn (size f) (rests all journal done) → Remains all journal done made schedule → made ≡ places_of schedule
remains_all all base f journal done made schedule runs e m =
    let none = is_next (size f) (rests all journal done) None e in
    let empty : (q : ℕ) → rests all journal done q ≡ [] = λ q. elim (cases_lt q (size f)) [ inl lt ↦ none q lt | inr ge ↦ none_beyond all base f journal done runs q ge ] in
    sym (append-nil made) ∙ ap (λ s. made ++ places_of s) (sym (none_left (rests all journal done) empty m.rest m.scheduled)) ∙ m.whole

abbrev pub zeros : ℕ → List ℕ
zeros n = replicate n 0

pub zero_there : (n q : ℕ) → get_or (zeros n) q 0 ≡ 0
zero_there n q = elim (cases_lt q n) [ inl lt ↦ get_or-replicate n q 0 0 lt | inr ge ↦ get_or-eq_default (zeros n) 0 {n = q} (let l : length (zeros n) ≡ n = length-replicate n 0 in omega arith) ]

-- The first entry of each journal.

least_as : (n : ℕ) (journal : Journals) (turns : List (Option EntryPlace)) → ((r : ℕ) → r < n → get_or turns r None ≡ first_turn r (journal r)) → least_of n turns ≡ least_turn n journal
least_as zero journal turns h = refl
least_as (suc n) journal turns h =
    let before : least_of n turns ≡ least_turn n journal = least_as n journal turns (λ r lt. h r (omega arith)) in
    let here : get_or turns n None ≡ first_turn n (journal n) = h n (omega arith) in
    (λ t. earlier (before t) (here t))

pub least_first : (n : ℕ) (journal : Journals) (turns : List (Option EntryPlace)) → AreFirst n journal turns → least_of (length turns) turns ≡ least_turn n journal
least_first n journal turns h = ap (λ k. least_of k turns) h.0 ∙ least_as n journal turns h.1

got_before : (turns : List (Option EntryPlace)) (turn : Option EntryPlace) (r : ℕ) → r < length turns → get_or (turns ++ turn ∷ []) r None ≡ get_or turns r None
got_before [] turn r lt = absurd (omega arith)
got_before (x ∷ turns) turn zero lt = refl
got_before (x ∷ turns) turn (suc r) lt = got_before turns turn r (omega arith)

got_last : (turns : List (Option EntryPlace)) (turn : Option EntryPlace) → get_or (turns ++ turn ∷ []) (length turns) None ≡ turn
got_last [] turn = refl
got_last (x ∷ turns) turn = got_last turns turn

pub first_more : (n : ℕ) (journal : Journals) (turns after : List (Option EntryPlace)) (turn : Option EntryPlace) → turn ≡ first_turn n (journal n) → after ≡ turns ++ turn ∷ [] → AreFirst n journal turns → AreFirst (n + 1) journal after
first_more n journal turns after turn is grown h = subst (AreFirst (n + 1) journal) (sym grown) (
  length-append turns (turn ∷ []) ∙ ap (λ k. k + 1) h.0,
  λ r lt. elim (cases_eq r n) [
    | inl same ↦ ap (λ k. get_or (turns ++ turn ∷ []) k None) (same ∙ sym h.0) ∙ got_last turns turn ∙ is ∙ (λ t. first_turn (sym same t) (journal (sym same t)))
    | inr ne ↦ got_before turns turn r (let long : length turns ≡ n = h.0 in omega arith) ∙ h.1 r (omega arith)
  ],
)

pub first_begins : (all : Bool) (n : ℕ) (journal : Journals) (done : List ℕ) (turns : List (Option EntryPlace)) → ((q : ℕ) → get_or done q 0 ≡ 0) → AreFirst n (all_taken all journal) turns → AreFirst n (rests all journal done) turns
first_begins all n journal done turns none h = (h.0, λ r lt. h.1 r lt ∙ ap (λ k. first_turn r (taken all (drop k (journal r)))) (sym (none r)))

pub first_next : (all : Bool) (n : ℕ) (journal : Journals) (done : List ℕ) (turns : List (Option EntryPlace)) (r number : ℕ) (turn : Option EntryPlace) → length done ≡ n → r < n → turn ≡ first_turn r (taken all (drop number (journal r))) → AreFirst n (rests all journal done) turns
    → AreFirst n (rests all journal (set done r number)) (set turns r turn)
first_next all n journal done turns r number turn long below is h = (
  length-set turns r turn ∙ h.0,
  λ q lt. elim (cases_eq q r) [
    | inl same ↦ ap (λ k. get_or (set turns r turn) k None) same ∙ get_or-set_same turns r turn None (let k : length turns ≡ n = h.0 in omega arith)
        ∙ is
        ∙ ap (λ k. first_turn r (taken all (drop k (journal r)))) (sym (get_or-set_same done r number 0 (omega arith)))
        ∙ (λ t. first_turn (sym same t) (rests all journal (set done r number) (sym same t)))
    | inr ne ↦ get_or-set_other turns r q turn None ne ∙ h.1 q lt ∙ ap (λ k. first_turn q (taken all (drop k (journal q)))) (sym (get_or-set_other done r q number 0 ne))
  ],
)

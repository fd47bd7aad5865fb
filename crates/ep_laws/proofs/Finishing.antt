-- All that live replicas know of is ended, one instance after the other: none of them makes more known, and each takes one more sequence number at most.
use Rattle.std.proofs.Common.{◌≡◌, ◌≢◌, ℕ, ◌+◌, ◌*◌, ◌<◌, ◌≤◌, Bool, true, cond, is_none, Option, Some, None, List, [], ◌∷◌, ◌++◌, refl, sym, ap, subst, ◌∙◌, inl, inr, ◌⊎◌, arith}
use Rattle.std.proofs.lemmas.Bool.{cases_eq}
use Rattle.ep_base.specs.Ballots.{counter_of}
use Rattle.ep_base.specs.Instances.{leader_of}
use Rattle.ep_base.specs.Places.{Has}
use Rattle.ep_base.specs.Quorums.{size}
use Rattle.ep_base.specs.declared.attrs.Attrs.{Attrs}
use Rattle.ep_base.specs.declared.decree.Decree.{Decree}
use Rattle.ep_base.specs.declared.vote.Vote.{Vote}
use Rattle.ep_base.specs.declared.vote.VoteStatus.{VoteStatus}
use Rattle.ep_base.specs.declared.vote.VoteStatus.TheVariants.{PreAccepted, Accepted, Committed}
use Rattle.ep_base.proofs.Places.{Has-first}
use Rattle.ep_rules.specs.Cells.{Cell, committed_at, committed_decree, record_or_fresh}
use Rattle.ep_rules.specs.Counting.{count}
use Rattle.ep_rules.specs.Graph.{Reaches}
use Rattle.ep_rules.specs.Graph.Reaches.{itself, onward}
use Rattle.ep_rules.specs.Maps.{Map, get, entries}
use Rattle.ep_rules.specs.Order.{IsComplete}
use Rattle.ep_rules.specs.States.{State, cell_in, committed_in, attrs_of, graph_in}
use Rattle.ep_rules.specs.Worlds.{World, opening, Act, IsRun, ends}
use Rattle.ep_rules.specs.declared.record.Record.{Record}
use Rattle.ep_rules.proofs.Keeping.{record_of}
use Rattle.ep_rules.proofs.Permanence.{permanence_holds}
use Rattle.ep_rules.proofs.Places.{has_cons, has_tail}
use Rattle.ep_laws.specs.Alone.{silenced, AllServe, recoveries, HasRoom, Ending, SameRun}
use Rattle.ep_laws.specs.Finishing.{open_among, HasCounters, AllServeThese, Finishing, CanFinish}
use Rattle.ep_laws.specs.InTurn.{HasEnded}
use Rattle.ep_laws.specs.Known.{VoteHas, Within, KnowsWithin, AllKnown}
use Rattle.ep_laws.proofs.Ending.{ending}
use Rattle.ep_laws.proofs.Entries.{AllEntries, all_get}
use Rattle.ep_laws.proofs.Executing.{can_execute_lem}
use Rattle.ep_laws.proofs.Leading.{join, ends_join, sum_join}
use Rattle.ep_laws.proofs.Same.{same_run}
use Rattle.ep_laws.proofs.Sound.{WorldSound, run_sound, opening_sound, silenced_sound}
use Rattle.ep_laws.proofs.Spreading.{run_apart, greatest_within, EntryWithin, known_entries, known_after}

-- Open instances, in a later state.

open_step : (a b : Option Decree) (m n : ℕ) → ((d : Decree) → a ≡ Some d → b ≡ Some d) → n ≤ m → cond (is_none b) 1 0 + n ≤ cond (is_none a) 1 0 + m
open_step None None m n up h = omega arith
open_step None (Some d) m n up h = omega arith
open_step (Some d) None m n up h = absurd (let e : None ≡ Some d = up d refl in cc)
open_step (Some d) (Some e) m n up h = omega arith

fewer_open : (a b : Map Record) (is : List ℕ) → ((i : ℕ) (d : Decree) → committed_in a i ≡ Some d → committed_in b i ≡ Some d) → open_among b is ≤ open_among a is
fewer_open a b [] up = omega arith
fewer_open a b (i ∷ is) up = open_step (committed_in a i) (committed_in b i) (open_among a is) (open_among b is) (up i) (fewer_open a b is up)

one_open : (records : Map Record) (i : ℕ) (is : List ℕ) → committed_in records i ≡ None → open_among records (i ∷ is) ≡ 1 + open_among records is
one_open records i is e = ap (λ o. cond (is_none o) 1 0 + open_among records is) e

not_open : (records : Map Record) (i : ℕ) (is : List ℕ) (d : Decree) → committed_in records i ≡ Some d → open_among records (i ∷ is) ≡ open_among records is
not_open records i is d e = let z : open_among records (i ∷ is) ≡ 0 + open_among records is = ap (λ o. cond (is_none o) 1 0 + open_among records is) e in omega arith

committed_or : (records : Map Record) (i : ℕ) → ((d : Decree) × (committed_in records i ≡ Some d)) ⊎ (committed_in records i ≡ None)
committed_or records i = go (committed_in records i)
  where
    go : (o : Option Decree) → ((d : Decree) × (o ≡ Some d)) ⊎ (o ≡ None)
    go None = inr refl
    go (Some d) = inl (d, refl)

-- What serves one of the instances serves them.
serve_these : (live : ℕ → Bool) (q i : ℕ) (is : List ℕ) (acts : List Act) → Has is i → AllServe live q i acts → AllServeThese live q is acts
serve_these live q i is [] has s = tt
serve_these live q i is (a ∷ acts) has s = (s.0, (i, has, s.1), serve_these live q i is acts has s.2)

join_these : (live : ℕ → Bool) (q : ℕ) (is : List ℕ) (xs ys : List Act) → AllServeThese live q is xs → AllServeThese live q is ys → AllServeThese live q is (xs ++ ys)
join_these live q is [] ys a b = b
join_these live q is (x ∷ xs) ys a b = (a.0, a.1, join_these live q is xs ys a.2 b)

module _ (f : ℕ) (two : 0 < f) (few : size f ≤ 256) (live : ℕ → Bool) (enough : f + 1 ≤ count (size f) live) (q : ℕ) (q_low : q < size f) (q_live : live q ≡ true) (is : List ℕ) (led : (i : ℕ) → Has is i → leader_of i < size f) where
  abbrev records_of : World → Map Record
  records_of w = (w.states q).records

  -- those that are left have counters
  abbrev Counters : World → List ℕ → Type 0
  Counters w todo = (i : ℕ) → Has todo i → committed_in (records_of w) i ≡ None → HasCounters f live w i

  pub record Ended (w : World) (m : ℕ) (todo : List ℕ) : Type 0 where
    pub acts : List Act
    pub run : IsRun f (silenced w) acts
    pub serve : AllServeThese live q is acts
    pub fewest : recoveries acts ≤ 2 * open_among (records_of w) todo
    pub committed : (i : ℕ) → Has todo i → HasEnded (ends f (silenced w) acts) q i
    pub most : ℕ
    pub bound : most ≤ m + open_among (records_of w) todo
    pub known : AllKnown f live is most (ends f (silenced w) acts)

  keeps : (w : World) (acts : List Act) → IsRun f (silenced w) acts → (i : ℕ) → HasEnded w q i → HasEnded (ends f (silenced w) acts) q i
  keeps w acts run i e = (e.0, permanence_holds f (silenced w) acts run i q e.0 e.1)

  none_to_do : (w : World) (m : ℕ) → AllKnown f live is m w → Ended w m []
  none_to_do w m known = record { acts = []; run = tt; serve = tt; fewest = (omega arith); committed = λ i h. absurd (omega arith); most = m; bound = (omega arith); known = known }

  -- the first one is committed
  skipped : (w : World) (m i : ℕ) (todo : List ℕ) (d : Decree) → committed_in (records_of w) i ≡ Some d → Ended w m todo → Ended w m (i ∷ todo)
  skipped w m i todo d e t = record {
    acts = t.acts;
    run = t.run;
    serve = t.serve;
    fewest = (let a = t.fewest in let b = not_open (records_of w) i todo d e in omega arith);
    committed = λ j h. elim (has_cons i j todo h) [ inl at ↦ subst (λ k. HasEnded (ends f (silenced w) t.acts) q k) at (keeps w t.acts t.run i (d, e)) | inr there ↦ t.committed j there ];
    most = t.most;
    bound = (let a = t.bound in let b = not_open (records_of w) i todo d e in omega arith);
    known = t.known;
  }

  -- the first one is ended, and then the others
  module _ (w : World) (i : ℕ) (todo : List ℕ) (has : Has is i) (e : Ending f live q i w) (unended : committed_in (records_of w) i ≡ None) where
    abbrev next : World
    next = ends f (silenced w) e.acts

    abbrev first_run : IsRun f (silenced w) e.acts
    first_run = (e.alone).run

    first_ended : HasEnded next q i
    first_ended = (e.decree, ap (λ (s : State). committed_in s.records i) (sym ((same_run f w e.acts first_run).same q)) ∙ e.committed)

    stays : (j : ℕ) (d : Decree) → committed_in (records_of w) j ≡ Some d → committed_in (records_of next) j ≡ Some d
    stays j d at = permanence_holds f (silenced w) e.acts first_run j q d at

    apart : (r j : ℕ) → j ≢ i → cell_in (next.states r) j ≡ cell_in (w.states r) j
    apart r j ne = run_apart f live q i e.acts (silenced w) first_run (e.alone).serve r j ne

    -- what is left to do has its counters as before
    counters_left : Counters w (i ∷ todo) → Counters next todo
    counters_left all j h none = elim (cases_eq j i) [
      | inl at ↦ absurd (let c : committed_in (records_of next) i ≡ None = subst (λ k. committed_in (records_of next) k ≡ None) at none in let x : None ≡ Some first_ended.0 = sym c ∙ first_ended.1 in cc)
      | inr ne ↦ (
          let was : HasCounters f live w j = all j (has_tail i j todo h) (ap (λ c. committed_decree (record_of j c).vote) (sym (apart q j ne)) ∙ none) in
          record {
            promised = λ r low lives. subst (λ c. counter_of (record_of j c).promised < 59998) (sym (apart r j ne)) (was.promised r low lives);
            reported = λ r low lives. subst (λ (c : Cell). c.reported < 59998) (sym (apart r j ne)) (was.reported r low lives);
          })
    ]

    open_left : 1 + open_among (records_of next) todo ≤ open_among (records_of w) (i ∷ todo)
    open_left = let a = one_open (records_of w) i todo unended in let b = fewer_open (records_of w) (records_of next) todo stays in omega arith

    both : (m : ℕ) → Ended next (m + 1) todo → Ended w m (i ∷ todo)
    both m t =
        let wide : SameRun f next t.acts = same_run f next t.acts t.run in
        let at_end : (r : ℕ) → (ends f (silenced w) (e.acts ++ t.acts)).states r ≡ (ends f (silenced next) t.acts).states r = λ r. ap (λ (v : World). v.states r) (ends_join f live q i e.acts t.acts (silenced w)) ∙ wide.same r in
        record {
          acts = e.acts ++ t.acts;
          run = join f live q i e.acts t.acts (silenced w) first_run wide.run;
          serve = join_these live q is e.acts t.acts (serve_these live q i is e.acts has (e.alone).serve) t.serve;
          fewest = (let s = sum_join f live q i e.acts t.acts in let a = e.few in let b = t.fewest in let c = open_left in omega arith);
          committed = λ j h. (
              let ended : HasEnded (ends f (silenced next) t.acts) q j = elim (has_cons i j todo h) [
                | inl at ↦ subst (λ k. HasEnded (ends f (silenced next) t.acts) q k) at (keeps next t.acts t.run i first_ended)
                | inr there ↦ t.committed j there
              ] in
              (ended.0, ap (λ (s : State). committed_in s.records j) (at_end q) ∙ ended.1));
          most = t.most;
          bound = (let a = t.bound in let b = open_left in omega arith);
          known = λ r low lives. subst (λ s. KnowsWithin is t.most s) (sym (at_end r)) (t.known r low lives);
        }

  room_for : (w : World) (i m : ℕ) → AllKnown f live is m w → m < 999998 → HasCounters f live w i → HasRoom f live w i
  room_for w i m known low c = record {
    promised = c.promised;
    reported = c.reported;
    seqs = λ r lt lives. (let g = greatest_within is m (entries (w.states r).records) (known_entries is m (w.states r) (known r lt lives)) in omega arith);
  }

  pub all_ended : (todo : List ℕ) (w : World) (m : ℕ) → WorldSound f w → AllKnown f live is m w → ((i : ℕ) → Has todo i → Has is i) → Counters w todo → m + open_among (records_of w) todo ≤ 999998 → Ended w m todo
  all_ended [] w m sound known among counters room = none_to_do w m known
  all_ended (i ∷ todo) w m sound known among counters room = go (committed_or (records_of w) i) (all_ended todo)
    where
      go : ((d : Decree) × (committed_in (records_of w) i ≡ Some d)) ⊎ (committed_in (records_of w) i ≡ None) →
          ((v : World) (n : ℕ) → WorldSound f v → AllKnown f live is n v → ((j : ℕ) → Has todo j → Has is j) → Counters v todo → n + open_among (records_of v) todo ≤ 999998 → Ended v n todo) → Ended w m (i ∷ todo)
      go (inl t) rec = skipped w m i todo t.0 t.1 (rec w m sound known (λ j h. among j (has_tail i j todo h)) (λ j h. counters j (has_tail i j todo h)) (let n = not_open (records_of w) i todo t.0 t.1 in omega arith))
      go (inr unended) rec =
          let here : Has is i = among i (Has-first i todo) in
          let more = one_open (records_of w) i todo unended in
          let e : Ending f live q i w = ending f two few live enough q q_low q_live i (led i here) w sound (room_for w i m known (omega arith) (counters i (Has-first i todo) unended)) in
          let v : World = ends f (silenced w) e.acts in
          let left = open_left w i todo here e unended in
          both w i todo here e unended m
          (rec v (m + 1) (run_sound f few e.acts (silenced w) (e.alone).run (silenced_sound f w sound))
          (known_after f live q i is here m w e.acts (e.alone).run (e.alone).serve known)
          (λ j h. among j (has_tail i j todo h)) (counters_left w i todo here e unended counters) (omega arith))

  -- What is reached from one of these is one of these.

  deps_of : (m : ℕ) (j : ℕ) (a : Attrs) (o : Option Record) → ((x : Record) → o ≡ Some x → VoteHas (Within is m) x.vote) → attrs_of (committed_decree (record_or_fresh j o).vote) ≡ Some a → (k : ℕ) → Has a.deps k → Has is k
  deps_of m j a None each e k h = absurd (cc)
  deps_of m j a (Some x) each e k h = of_vote x.vote (each x refl) e
    where
      of_status : (v : Vote) (s : VoteStatus) → Within is m v.decree.attrs → attrs_of (committed_at s v.decree) ≡ Some a → Has is k
      of_status v PreAccepted w e = absurd (cc)
      of_status v Accepted w e = absurd (cc)
      of_status v Committed w e = let same : v.decree.attrs ≡ a = cc in w.deps k (subst (λ (b : Attrs). Has b.deps k) (sym same) h)

      of_vote : (v : Option Vote) → VoteHas (Within is m) v → attrs_of (committed_decree v) ≡ Some a → Has is k
      of_vote None w e = absurd (cc)
      of_vote (Some v) w e = of_status v v.status w e

  pub reached_known : (m : ℕ) (s : State) → AllEntries (EntryWithin is m) (entries s.records) → (root : ℕ) → Has is root → (j : ℕ) → Reaches (graph_in s.records) root j → Has is j
  reached_known m s all root h j itself = h
  reached_known m s all root h j (onward {j = k} a r e dep) =
      deps_of m k a (get s.records k) (λ x at. (all_get (EntryWithin is m) s.records k x all at).1) e j dep

  pub finishing : (w : World) (m : ℕ) → WorldSound f w → AllKnown f live is m w → Counters w is → m + open_among (records_of w) is ≤ 999998 → Finishing f live q is w
  finishing w m sound known counters room =
      let t : Ended w m is = all_ended is w m sound known (λ i h. h) counters room in
      let same : (r : ℕ) → (ends f w t.acts).states r ≡ (ends f (silenced w) t.acts).states r = (same_run f w t.acts t.run).same in
      let ended : (i : ℕ) → Has is i → HasEnded (ends f w t.acts) q i = λ i h. ((t.committed i h).0, ap (λ (s : State). committed_in s.records i) (same q) ∙ (t.committed i h).1) in
      let last : State = (ends f w t.acts).states q in
      let entries_known : AllEntries (EntryWithin is t.most) (entries last.records) = subst (λ (s : State). AllEntries (EntryWithin is t.most) (entries s.records)) (sym (same q)) (known_entries is t.most _ (t.known q q_low q_live)) in
      let whole : (root : ℕ) → Has is root → IsComplete (graph_in last.records) root = λ root h j r. (let e = ended j (reached_known t.most last entries_known root h j r) in ((e.0).attrs, ap attrs_of e.1)) in
      record {
        acts = t.acts;
        alone = t.run;
        serve = t.serve;
        few = t.fewest;
        committed = ended;
        complete = whole;
        executes = λ root h. can_execute_lem f q last root (led root h) (whole root h);
      }

pub can_finish_lem : CanFinish
can_finish_lem base f two few acts run live enough q q_low q_live is m led known counters room =
    finishing f two few live enough q q_low q_live is led (ends f (opening base) acts) m (run_sound f few acts (opening base) run (opening_sound f base)) known counters room

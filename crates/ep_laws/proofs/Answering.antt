-- A command that is proposed behind all that live replicas know of is committed and executed: nobody else has voted in its instance.
use Rattle.std.proofs.Common.{◌≡◌, ◌≢◌, ℕ, ◌+◌, ◌<◌, ◌≤◌, Bool, true, false, cond, not, is_none, Option, Some, None, Result, Ok, Err, List, [], ◌∷◌, ◌++◌, refl, sym, ap, subst, ◌∙◌, inl, inr, arith}
use Rattle.std.proofs.lemmas.Bool.{and_from, le-leb, cases_eq, false≢true}
use Rattle.ep_base.specs.Ballots.{counter_of}
use Rattle.ep_base.specs.Commands.{Command}
use Rattle.ep_base.specs.Instances.{instance_of, leader_of, highest_number}
use Rattle.ep_base.specs.Places.{Has}
use Rattle.ep_base.specs.Quorums.{size, spared, is_fast}
use Rattle.ep_base.specs.declared.attrs.Attrs.{Attrs}
use Rattle.ep_base.specs.declared.decree.Decree.{Decree}
use Rattle.ep_base.specs.declared.message.Message.TheVariants.{PreAccept}
use Rattle.ep_base.specs.declared.vote.VoteStatus.{VoteStatus}
use Rattle.ep_base.specs.declared.vote.VoteStatus.TheVariants.{PreAccepted, Accepted, Committed}
use Rattle.ep_base.specs.declared.vote.Vote.{Vote}
use Rattle.ep_base.proofs.Places.{Has-first}
use Rattle.ep_rules.specs.Cells.{Cell, Change, Refusal, OutOfRange, NotMine, SeqExhausted, committed_at, committed_decree, record_or_fresh, voted}
use Rattle.ep_rules.specs.Counting.{count, least}
use Rattle.ep_rules.specs.InterferenceSet.{interference}
use Rattle.ep_rules.specs.Maps.{Map, none, get, entries}
use Rattle.ep_rules.specs.OneMap.{Store}
use Rattle.ep_rules.proofs.Lookups.{none_there}
use Rattle.ep_rules.specs.Order.{IsComplete}
use Rattle.ep_rules.specs.Phases.{first_phase}
use Rattle.ep_rules.specs.States.{State, cell_in, record_in, committed_in, attrs_of, graph_in, is_free, free_number, fresh_state, or_zero}
use Rattle.ep_rules.specs.Steps.{Execute, may_ask, at, proposed, acts, changed_by, IsTaken}
use Rattle.ep_rules.specs.Worlds.{World, opening, In, Act, Happens, moved, IsRun, ends}
use Rattle.ep_rules.specs.declared.led_instance.LedInstance.{LedInstance}
use Rattle.ep_rules.specs.declared.led_instance.LedInstance.TheVariants.{Proposing, Accepting, Preparing}
use Rattle.ep_rules.specs.declared.record.Record.{Record}
use Rattle.ep_rules.proofs.Counting.{least_none}
use Rattle.ep_rules.proofs.Keeping.{record_of, sent_to_those}
use Rattle.ep_rules.proofs.Local.{free_found}
use Rattle.ep_rules.proofs.Moves.{moves}
use Rattle.ep_rules.proofs.Permanence.{permanence_holds}
use Rattle.ep_rules.proofs.Places.{has_cons, has_tail}
use Rattle.ep_laws.specs.Alone.{silenced, AllServe, HasRoom, Ending}
use Rattle.ep_laws.specs.Executing.{Executed}
use Rattle.ep_laws.specs.Finishing.{HasCounters, AllServeThese}
use Rattle.ep_laws.specs.InTurn.{HasEnded}
use Rattle.ep_laws.specs.Known.{Within, KnowsWithin, AllKnown}
use Rattle.ep_laws.specs.Serving.{AllLive, proposing, CanServe, RoomAtFirst}
use Rattle.ep_laws.proofs.Acting.{state_here, state_apart}
use Rattle.ep_laws.proofs.Choosing.{VoteFor}
use Rattle.ep_laws.proofs.Ending.{ending}
use Rattle.ep_laws.proofs.Entries.{all_get}
use Rattle.ep_laws.proofs.Executing.{can_execute_lem}
use Rattle.ep_laws.proofs.Finishing.{Ended, all_ended, reached_known}
use Rattle.ep_laws.proofs.Knowledge.{ChangeHas}
use Rattle.ep_laws.proofs.Leading.{join, ends_join}
use Rattle.ep_laws.proofs.Same.{same_run}
use Rattle.ep_laws.proofs.Serving.{CellFor, LeadFor, WorldFor, run_for}
use Rattle.ep_laws.proofs.Sound.{WorldSound, act_sound, run_sound, opening_sound, silenced_sound, own_leader, nothing_in}
use Rattle.ep_laws.proofs.Spreading.{StateHas, changed_has, left_has, joins_within, known_after, known_entries, greatest_within, own_within, wider_known, these_apart, EntryWithin, in_all}

-- Lists of acts.

all_live : (live : ℕ → Bool) (q : ℕ) (is : List ℕ) (acts : List Act) → AllServeThese live q is acts → AllLive live acts
all_live live q is [] s = tt
all_live live q is (a ∷ acts) s = (s.0, all_live live q is acts s.2)

one_live : (live : ℕ → Bool) (q i : ℕ) (acts : List Act) → AllServe live q i acts → AllLive live acts
one_live live q i [] s = tt
one_live live q i (a ∷ acts) s = (s.0, one_live live q i acts s.2)

join_live : (live : ℕ → Bool) (xs ys : List Act) → AllLive live xs → AllLive live ys → AllLive live (xs ++ ys)
join_live live [] ys a b = b
join_live live (x ∷ xs) ys a b = (a.0, join_live live xs ys a.1 b)

in_behind : (a : Act) (xs ys : List Act) → In a ys → In a (xs ++ ys)
in_behind a [] ys h = h
in_behind a (x ∷ xs) ys h = inr (in_behind a xs ys h)

-- A number that is free.

some_least : (n : ℕ) (p : ℕ → Bool) (k : ℕ) → k < n → p k ≡ true → (j : ℕ) × (least n p ≡ Some j)
some_least n p k lt e = go (least n p) refl
  where
    go : (o : Option ℕ) → least n p ≡ o → (j : ℕ) × (o ≡ Some j)
    go None is = absurd (false≢true (sym (least_none n p is k lt) ∙ e))
    go (Some j) is = (j, refl)

free_there : (records : Map Record) (r n : ℕ) → n < highest_number → get records (instance_of r (n + 1)) ≡ None → (j : ℕ) × (free_number records r ≡ Some j)
unfolding free_number
free_there records r n lt e = some_least highest_number (is_free records r) n lt (ap (λ o. is_none o) e)

fresh_vote : (c : Command) (i : ℕ) (o : Option Record) → o ≡ None → VoteFor c (record_or_fresh i o).vote
fresh_vote c i o e = subst (λ p. VoteFor c (record_or_fresh i p).vote) (sym e) tt

unnamed : (is : List ℕ) (m i : ℕ) (s : State) → KnowsWithin is m s → ¬ Has is i → get s.records i ≡ None
unnamed is m i s k not = go (get s.records i) refl
  where
    go : (o : Option Record) → get s.records i ≡ o → o ≡ None
    go None e = refl
    go (Some x) e = absurd (not (all_get (EntryWithin is m) s.records i x (known_entries is m s k) e).0)

decree_for : (c : Command) (v : Option Vote) (d : Decree) → VoteFor c v → committed_decree v ≡ Some d → d.command ≡ c
decree_for c None d w e = absurd (cc)
decree_for c (Some v) d w e = go v.status e
  where
    go : (s : VoteStatus) → committed_at s v.decree ≡ Some d → d.command ≡ c
    go PreAccepted e = absurd (cc)
    go Accepted e = absurd (cc)
    go Committed e = let same : v.decree ≡ d = cc in subst (λ (x : Decree). x.command ≡ c) same w

passes : (b : Bool) → b ≡ true → cond b (cond true None (Some NotMine)) (Some OutOfRange) ≡ None
passes true e = refl
passes false e = absurd (cc)

taken : (o : Result (ℕ × Change) Refusal) (p : ℕ × Change) → o ≡ Ok p → IsTaken o
taken o p e = subst IsTaken (sym e) tt

-- Behind all that live replicas know of: w1, where q proposes c as instance i.
module _ (f : ℕ) (two : 0 < f) (few : size f ≤ 256) (live : ℕ → Bool) (enough : f + 1 ≤ count (size f) live) (q : ℕ) (q_low : q < size f) (q_live : live q ≡ true) (is : List ℕ) (led : (j : ℕ) → Has is j → leader_of j < size f)
    (client request : ℕ) (c : Command) (seen : ℕ) (may : may_ask client request c ≡ true) where
  abbrev proposal : Act
  proposal = proposing q client request c seen

  not_named : (w1 : World) → ((j : ℕ) → Has is j → HasEnded w1 q j) → (k : ℕ) → free_number (w1.states q).records q ≡ Some k → ¬ Has is (instance_of q (k + 1))
  not_named w1 ended k free h =
      let n : ℕ = instance_of q (k + 1) in
      let e = ended n h in
      let none : committed_in (w1.states q).records n ≡ None = ap (λ o. committed_decree (record_or_fresh n o).vote) (free_found (w1.states q).records q k free).1 in
      let x : None ≡ Some e.0 = sym none ∙ e.1 in
      absurd (cc)

  -- what q takes behind w1
  pub record Tail (w1 : World) : Type 0 where
    pub acts : List Act
    pub run : IsRun f w1 acts
    pub lives : AllLive live acts
    pub there : In proposal acts
    pub instance : ℕ
    pub own : leader_of instance ≡ q
    pub decree : Decree
    pub committed : committed_in ((ends f w1 acts).states q).records instance ≡ Some decree
    pub command : decree.command ≡ c
    pub executed : Has ((ends f w1 acts).states q).executed instance

  module _ (w1 : World) (m : ℕ) (sound : WorldSound f w1) (known : AllKnown f live is m w1) (room : m + 2 ≤ 999998) (ended : (j : ℕ) → Has is j → HasEnded w1 q j)
      (k : ℕ) (free : free_number (w1.states q).records q ≡ Some k) (reported : (r : ℕ) → r < size f → live r ≡ true → (cell_in (w1.states r) (instance_of q (k + 1))).reported < 59998) where
    abbrev i : ℕ
    i = instance_of q (k + 1)

    abbrev now : State
    now = w1.states q

    abbrev own : Attrs
    own = interference now.records i c

    abbrev decree : Decree
    decree = record { command = c; attrs = own }

    abbrev change : Change
    change = first_phase (is_fast (leader_of i) (spared f q None)) f i (leader_of i) (spared f q None) decree

    lead : leader_of i ≡ q
    lead = own_leader q k (free_found now.records q k free).0

    unrecorded : get now.records i ≡ None
    unrecorded = (free_found now.records q k free).1

    -- nobody live knows of it
    unknown : ¬ Has is i
    unknown = not_named w1 ended k free

    blank : (r : ℕ) → r < size f → live r ≡ true → get (w1.states r).records i ≡ None
    blank r low lives = unnamed is m i (w1.states r) (known r low lives) unknown

    own_bound : Within is (m + 1) own
    own_bound = own_within is m now.records i c (known_entries is m now (known q q_low q_live))

    did : acts f q now proposal.event ≡ Ok (i, change)
    did = ap (λ o. proposed f q (spared f q None) now c o) free ∙ ap (at i) (ap (λ b. cond b (Ok change) (Err SeqExhausted)) (le-leb own.seq 1000000 (let s = own_bound.seq in omega arith)))

    happens : Happens f w1 proposal
    happens = record { replica = q_low; step = record { unscreened = passes _ (and_from _ _ may refl); taken = taken _ (i, change) did; executes = refl }; there = tt }

    abbrev w2 : World
    w2 = moved f w1 proposal

    sound2 : WorldSound f w2
    sound2 = act_sound f few w1 proposal happens sound

    here : cell_in (w2.states q) i ≡ record { entry = Some (voted (leader_of i) PreAccepted decree); led = Some (Proposing (leader_of i) (spared f q None) []); reported = (cell_in now i).reported }
    here = (moves f w1 proposal (i, change) did).here

    abbrev more : List ℕ
    more = i ∷ is

    has : Has more i
    has = Has-first i is

    led2 : (j : ℕ) → Has more j → leader_of j < size f
    led2 j h = elim (has_cons i j is h) [ inl e ↦ subst (λ n. leader_of n < size f) e (subst (λ n. n < size f) (sym lead) q_low) | inr there ↦ led j there ]

    -- what is known then
    known2 : AllKnown f live more (m + 1) w2
    known2 r low lives = elim (cases_eq r q) [
      | inl at_q ↦ subst (λ n. KnowsWithin more (m + 1) (w2.states n)) (sym at_q) q_known
      | inr ne ↦ subst (λ s. KnowsWithin more (m + 1) s) (sym (state_apart f w1 proposal r ne)) (wider_known is more m (m + 1) (λ j h. has_tail i j is h) (omega arith) (w1.states r) (known r low lives))
    ]
      where
        q_known : KnowsWithin more (m + 1) (w2.states q)
        q_known =
            let wide : KnowsWithin more (m + 1) now = wider_known is more m (m + 1) (λ j h. has_tail i j is h) (omega arith) now (known q q_low q_live) in
            let wide' : KnowsWithin more m now = wider_known is more m m (λ j h. has_tail i j is h) (omega arith) now (known q q_low q_live) in
            let before : StateHas f live q i more has (Within more (m + 1)) (joins_within more (m + 1)) now = record {
              recorded = known_entries more (m + 1) now wide;
              leads = wide.led;
              own = λ d. own_within more m now.records i d (known_entries more m now wide');
            } in
            let ch : ChangeHas (Within more (m + 1)) change = record {
              entry = own_within more m now.records i c (known_entries more m now wide');
              led = λ r a e. absurd (cc);
              out = sent_to_those _ (is_fast (leader_of i) (spared f q None)) (size f) (PreAccept i (leader_of i) decree) (λ r lt e. own_within more m now.records i c (known_entries more m now wide'));
            } in
            let after = changed_has f live q i more has (Within more (m + 1)) (joins_within more (m + 1)) q now before (Ok (i, change)) refl ch in
            let there = left_has f live q i more has (Within more (m + 1)) (joins_within more (m + 1)) q now proposal.event []
            (subst (λ o. StateHas f live q i more has (Within more (m + 1)) (joins_within more (m + 1)) (changed_by now o)) (sym did) after) in
            let last : StateHas f live q i more has (Within more (m + 1)) (joins_within more (m + 1)) (w2.states q) =
            subst (λ s. StateHas f live q i more has (Within more (m + 1)) (joins_within more (m + 1)) s) (sym (state_here f w1 proposal)) there in
            record { recorded = in_all (EntryWithin more (m + 1)) (entries (w2.states q).records) last.recorded; led = last.leads }

    low_counter : counter_of (leader_of i) < 59998
    low_counter = subst (λ n. counter_of n < 59998) (sym lead) (omega arith)

    room2 : HasRoom f live w2 i
    room2 = record {
      promised = λ r low lives. elim (cases_eq r q) [
        | inl at_q ↦ subst (λ n. counter_of (record_in (w2.states n) i).promised < 59998) (sym at_q) (subst (λ u. counter_of (record_of i u).promised < 59998) (sym here) low_counter)
        | inr ne ↦ subst (λ (s : State). counter_of (record_in s i).promised < 59998) (sym (state_apart f w1 proposal r ne)) (subst (λ o. counter_of (record_or_fresh i o).promised < 59998) (sym (blank r low lives)) low_counter)
      ];
      reported = λ r low lives. elim (cases_eq r q) [
        | inl at_q ↦ subst (λ n. (cell_in (w2.states n) i).reported < 59998) (sym at_q) (subst (λ (u : Cell). u.reported < 59998) (sym here) (reported q q_low q_live))
        | inr ne ↦ subst (λ (s : State). (cell_in s i).reported < 59998) (sym (state_apart f w1 proposal r ne)) (reported r low lives)
      ];
      seqs = λ r low lives. (let g = greatest_within more (m + 1) (entries (w2.states r).records) (known_entries more (m + 1) (w2.states r) (known2 r low lives)) in omega arith);
    }

    lead_low : leader_of i < size f
    lead_low = led2 i has

    -- it is ended
    e : Ending f live q i w2
    e = ending f two few live enough q q_low q_live i lead_low w2 sound2 room2

    abbrev w3 : World
    w3 = ends f (silenced w2) e.acts

    abbrev w4 : World
    w4 = ends f w2 e.acts

    same : (r : ℕ) → w4.states r ≡ w3.states r
    same r = (same_run f w2 e.acts (e.alone).run).same r

    -- by the command itself

    any_lead : (r : ℕ) → r ≢ q → (o : Option LedInstance) → LeadFor c i q r o
    any_lead r ne None = tt
    any_lead r ne (Some (Proposing b s answers)) = tt
    any_lead r ne (Some (Accepting b answers)) = tt
    any_lead r ne (Some (Preparing b answers)) = λ is'. absurd (ne is')

    for_q : CellFor c i q q (cell_in (w2.states q) i)
    for_q = subst (λ u. CellFor c i q q u) (sym here) (record {
      record_for = record {
        vote = refl;
        own = λ is'. record { last = record { status = PreAccepted; ballot = leader_of i; decree = decree }; is = refl; above = (omega arith); promised = (omega arith) };
      };
      lead_for = tt;
    })

    for_other : (r : ℕ) → r < size f → live r ≡ true → r ≢ q → CellFor c i q r (cell_in (w1.states r) i)
    for_other r low lives ne = record {
      record_for = record { vote = fresh_vote c i (get (w1.states r).records i) (blank r low lives); own = λ is'. absurd (ne is') };
      lead_for = any_lead r ne (get (w1.states r).leads i);
    }

    for_all : WorldFor c i q f live (silenced w2)
    for_all = record {
      states = λ r low lives. elim (cases_eq r q) [
        | inl at_q ↦ subst (λ n. CellFor c i q n (cell_in (w2.states n) i)) (sym at_q) for_q
        | inr ne ↦ subst (λ (s : State). CellFor c i q r (cell_in s i)) (sym (state_apart f w1 proposal r ne)) (for_other r low lives ne)
      ];
      sent = λ x there. absurd there;
    }

    committed3 : committed_in (w3.states q).records i ≡ Some e.decree
    committed3 = ap (λ (s : State). committed_in s.records i) (sym (same q)) ∙ e.committed

    named : (e.decree).command ≡ c
    named =
        let t = run_for c i q f few live q_low e.acts (silenced w2) (e.alone).run (e.alone).serve for_all in
        decree_for c (record_in (w3.states q) i).vote e.decree (((t.states q q_low q_live).record_for).vote) committed3

    -- and then it is executed

    ended3 : (j : ℕ) → Has more j → HasEnded w3 q j
    ended3 j h = elim (has_cons i j is h) [
      | inl at_i ↦ subst (λ n. HasEnded w3 q n) at_i (e.decree, committed3)
      | inr there ↦ (
          let t = ended j there in
          (t.0, permanence_holds f (silenced w2) e.acts (e.alone).run j q t.0 (permanence_holds f w1 (proposal ∷ []) (happens, tt) j q t.0 t.1)))
    ]

    complete : IsComplete (graph_in (w4.states q).records) i
    complete = subst (λ (s : State). IsComplete (graph_in s.records) i) (sym (same q)) (λ j r.
        let k3 = known_after f live q i more has (m + 1) w2 e.acts (e.alone).run (e.alone).serve known2 in
        let t = ended3 j (reached_known f two few live enough q q_low q_live more led2 (m + 1 + 1) (w3.states q) (known_entries more (m + 1 + 1) (w3.states q) (k3 q q_low q_live)) i has j r) in
        ((t.0).attrs, ap attrs_of t.1))

    last : Executed f q (w4.states q) i
    last = can_execute_lem f q (w4.states q) i lead_low complete

    abbrev execution : Act
    execution = record { replica = q; event = Execute i; done = last.done }

    execution_happens : Happens f w4 execution
    execution_happens = record { replica = q_low; step = last.step; there = tt }

    abbrev rest : List Act
    rest = e.acts ++ (execution ∷ [])

    at_end : ends f w2 rest ≡ moved f w4 execution
    at_end = ends_join f live q i e.acts (execution ∷ []) w2

    pub tail : Tail w1
    tail = record {
      acts = proposal ∷ rest;
      run = (happens, join f live q i e.acts (execution ∷ []) w2 (same_run f w2 e.acts (e.alone).run).run (execution_happens, tt));
      lives = (q_live, join_live live e.acts (execution ∷ []) (one_live live q i e.acts (e.alone).serve) (q_live, tt));
      there = inl refl;
      instance = i;
      own = lead;
      decree = e.decree;
      committed = ap (λ (v : World). committed_in (v.states q).records i) at_end ∙ permanence_holds f w4 (execution ∷ []) (execution_happens, tt) i q e.decree e.committed;
      command = named;
      executed = subst (λ (v : World). Has (v.states q).executed i) (sym at_end) (subst (λ (s : State). Has s.executed i) (sym (state_here f w4 execution)) last.executed);
    }

pub can_serve_lem : CanServe
can_serve_lem base f two few early run live enough q q_low q_live room client request c seen may =
    let w : World = ends f (opening base) early in
    let sound : WorldSound f w = run_sound f few early (opening base) run (opening_sound f base) in
    let bound = room.seqs in
    let t : Ended f two few live enough q q_low q_live room.is room.led w room.most room.is =
    all_ended f two few live enough q q_low q_live room.is room.led room.is w room.most sound room.known (λ j h. h) (λ j h none. room.counters j (room.led j h)) (omega arith) in
    let w1 : World = ends f (silenced w) t.acts in
    let free = free_there (w1.states q).records q room.number room.low (unnamed room.is t.most (instance_of q (room.number + 1)) (w1.states q) (t.known q q_low q_live) room.unknown) in
    let not : ¬ Has room.is (instance_of q (free.0 + 1)) = not_named f two few live enough q q_low q_live room.is room.led client request c seen may w1 t.committed free.0 free.1 in
    let reported : (r : ℕ) → r < size f → live r ≡ true → (cell_in (w1.states r) (instance_of q (free.0 + 1))).reported < 59998 =
    λ r low lives. subst (λ (u : Cell). u.reported < 59998) (sym (these_apart f live q room.is t.acts (silenced w) t.run t.serve r (instance_of q (free.0 + 1)) not)) ((room.counters (instance_of q (free.0 + 1)) (subst (λ n. n < size f) (sym (own_leader q free.0 (free_found (w1.states q).records q free.0 free.1).0)) q_low)).reported r low lives) in
    let last : Tail f two few live enough q q_low q_live room.is room.led client request c seen may w1 =
    tail f two few live enough q q_low q_live room.is room.led client request c seen may w1 t.most (run_sound f few t.acts (silenced w) t.run (silenced_sound f w sound)) t.known (let b = t.bound in omega arith) t.committed free.0 free.1 reported in
    let all : IsRun f (silenced w) (t.acts ++ last.acts) = join f live q 0 t.acts last.acts (silenced w) t.run last.run in
    let at_end : (ends f w (t.acts ++ last.acts)).states q ≡ (ends f w1 last.acts).states q =
    (same_run f w (t.acts ++ last.acts) all).same q ∙ ap (λ (v : World). v.states q) (ends_join f live q 0 t.acts last.acts (silenced w)) in
    record {
      acts = t.acts ++ last.acts;
      alone = all;
      lives = join_live live t.acts last.acts (all_live live q room.is t.acts t.serve) last.lives;
      proposed = in_behind (proposing q client request c seen) t.acts last.acts last.there;
      instance = last.instance;
      own = last.own;
      decree = last.decree;
      committed = ap (λ (s : State). committed_in s.records last.instance) at_end ∙ last.committed;
      command = last.command;
      executed = subst (λ (s : State). Has s.executed last.instance) (sym at_end) last.executed;
    }

-- At first nothing is known.

no_leads : {X : Type 0} (j : ℕ) (x : X) → get (none {X = X}) j ≡ Some x → ⊥
no_leads j x e = absurd (let t : None ≡ Some x = sym (none_there j) ∙ e in cc)

nothing_known : (base : Store) → KnowsWithin [] 0 (fresh_state base)
nothing_known base = record {
  recorded = in_all (EntryWithin [] 0) (entries none) (nothing_in (EntryWithin [] 0));
  led = λ j l e. absurd (no_leads j l e);
}

first_counters : (base : Store) (f : ℕ) → size f ≤ 256 → (live : ℕ → Bool) (i : ℕ) → leader_of i < size f → HasCounters f live (opening base) i
first_counters base f few live i lead = record {
  promised = λ r low lives. subst (λ o. counter_of (record_or_fresh i o).promised < 59998) (sym (none_there i)) (first_counter (leader_of i) (omega arith));
  reported = λ r low lives. subst (λ o. or_zero o < 59998) (sym (none_there i)) (omega arith);
}
  where
    first_counter : (n : ℕ) → n < 256 → counter_of n < 59998
    first_counter n lt = omega arith

pub room_at_first_lem : RoomAtFirst
room_at_first_lem base f few live q low = record {
  is = [];
  most = 0;
  led = λ i h. absurd (omega arith);
  known = λ r lt lives. nothing_known base;
  counters = λ i lead. first_counters base f few live i lead;
  seqs = (omega arith);
  number = 0;
  low = (omega arith);
  unknown = λ h. absurd (omega arith);
}

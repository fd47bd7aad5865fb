-- A round from its recovery to its end.
use Rattle.std.proofs.Common.{◌≡◌, ◌≢◌, ℕ, ◌+◌, ◌<◌, ◌≤◌, Bool, true, false, cond, ◌&&◌, leb, Option, Some, None, is_some, Ok, Err, List, [], ◌∷◌, refl, sym, ap, subst, ◌∙◌, inl, inr, arith}
use Rattle.std.proofs.lemmas.Bool.{and_from, eqb-true, ne_eqb, not_from_false, cases_eq}
use Rattle.ep_base.specs.Ballots.{ballot_of, highest_counter}
use Rattle.ep_base.specs.Instances.{leader_of}
use Rattle.ep_base.specs.Messages.{instance_of_message}
use Rattle.ep_base.specs.Quorums.{size}
use Rattle.ep_base.specs.declared.decree.Decree.{Decree}
use Rattle.ep_base.specs.declared.message.Message.TheVariants.{PreAccept, PreAcceptOk, Accept, AcceptOk, Prepare, PrepareOk}
use Rattle.ep_base.specs.declared.reply.Answer.{Answer}
use Rattle.ep_base.specs.declared.vote.Vote.{Vote}
use Rattle.ep_rules.specs.Answers.{answer, with_answer}
use Rattle.ep_rules.specs.Cells.{Change, is_committed, Cell, AlreadyCommitted, BallotsExhausted}
use Rattle.ep_rules.specs.Counting.{count, is_other, to_those}
use Rattle.ep_rules.specs.Maps.{get}
use Rattle.ep_rules.specs.Phases.{Outcome, others}
use Rattle.ep_rules.specs.Recovery.{next_counter, prepare_phase, recover, answered_all}
use Rattle.ep_rules.specs.States.{State, cell_in, record_in}
use Rattle.ep_rules.specs.Steps.{Sent, Frame, Event, Propose, Handle, GiveUp, Recover, Execute, handled, at, acts, sent_from}
use Rattle.ep_rules.specs.Worlds.{World, opening, In, Act, Happens, moved, IsRun, ends, Committed}
use Rattle.ep_rules.specs.declared.led_instance.LedInstance.TheVariants.{Preparing}
use Rattle.ep_rules.specs.declared.record.Record.{Record}
use Rattle.ep_rules.proofs.Counting.{count_le}
use Rattle.ep_rules.proofs.Keeping.{record_of, applied}
use Rattle.ep_rules.proofs.Lookups.{answer_back}
use Rattle.ep_rules.proofs.Moves.{taken_of, unscreened}
use Rattle.ep_rules.proofs.Permanence.{permanence_holds}
use Rattle.ep_laws.specs.Alone.{silenced}
use Rattle.ep_laws.specs.Quiet.{Handles, IsHandled, Quiet, recovering, IsRound, after_round, next_ballot, RoundEnds}
use Rattle.ep_laws.proofs.Acting.{others_there, those_only, Done, done_by}
use Rattle.ep_laws.proofs.AnyAnswer.{preparing_step, proposing_step, accepting_step}
use Rattle.ep_laws.proofs.AnyOrder.{from_q, to_q, Said, prepare, prepare_ok, pre_accept, pre_accept_ok, accept, accept_ok, rec, Preparing0, Ended, Open, prepares, proposes, accepts, ended, Changed}
use Rattle.ep_laws.proofs.Sound.{WorldSound, run_sound, opening_sound, silenced_sound}
use Rattle.ep_laws.proofs.Tally.{answer_here, own_answer}

pub at_is : (j : ℕ) (o : Outcome) (p : ℕ × Change) → at j o ≡ Ok p → (o ≡ Ok p.1) × (p.0 ≡ j)
at_is j (Ok ch) p e = let same : (j, ch) ≡ p = cc in (ap (λ (z : ℕ × Change). Ok z.1) same, sym (ap (λ (z : ℕ × Change). z.0) same))
at_is j (Err why) p e = absurd (cc)

pub recover_is : (f i q : ℕ) (r : Record) (reported : ℕ) (ch : Change) → recover f i q r reported ≡ Ok ch → (is_committed r.vote ≡ false) × (ch ≡ prepare_phase f i q (ballot_of (next_counter r reported) q) r)
recover_is f i q r reported ch e = go (is_committed r.vote) refl (leb (next_counter r reported) highest_counter) e
  where
    go : (c : Bool) → is_committed r.vote ≡ c → (t : Bool) → cond c (Err AlreadyCommitted) (cond t (Ok (prepare_phase f i q (ballot_of (next_counter r reported) q) r)) (Err BallotsExhausted)) ≡ Ok ch → (is_committed r.vote ≡ false) × (ch ≡ prepare_phase f i q (ballot_of (next_counter r reported) q) r)
    go true is t e = absurd (cc)
    go false is true e = (is, (cc))
    go false is false e = absurd (cc)

-- what was handled, after these acts
abbrev pub heard_by : Event → List Sent → List Sent
heard_by (Propose client request c seen spared) done = done
heard_by (Handle m) done = m.sent ∷ done
heard_by (GiveUp i) done = done
heard_by (Recover i) done = done
heard_by (Execute root) done = done

abbrev pub heard : List Sent → List Act → List Sent
heard done [] = done
heard done (a ∷ acts) = heard (heard_by a.event done) acts

keeps_by : (s : Sent) (e : Event) (done : List Sent) → In s done → In s (heard_by e done)
keeps_by s (Propose client request c seen spared) done h = h
keeps_by s (Handle m) done h = inr h
keeps_by s (GiveUp i) done h = h
keeps_by s (Recover i) done h = h
keeps_by s (Execute root) done h = h

keeps : (s : Sent) (acts : List Act) (done : List Sent) → In s done → In s (heard done acts)
keeps s [] done h = h
keeps s (a ∷ acts) done h = keeps s acts (heard_by a.event done) (keeps_by s a.event done h)

hears_by : (s : Sent) (e : Event) (done : List Sent) → Handles s e → In s (heard_by e done)
hears_by s (Propose client request c seen spared) done h = absurd h
hears_by s (Handle m) done h = inl h
hears_by s (GiveUp i) done h = absurd h
hears_by s (Recover i) done h = absurd h
hears_by s (Execute root) done h = absurd h

pub hears : (s : Sent) (acts : List Act) (done : List Sent) → IsHandled s acts → In s (heard done acts)
hears s [] done h = absurd h
hears s (a ∷ acts) done (inl h) = keeps s acts (heard_by a.event done) (hears_by s a.event done h)
hears s (a ∷ acts) done (inr h) = hears s acts (heard_by a.event done) h

module _ (f : ℕ) (two : 0 < f) (few : size f ≤ 256) (live : ℕ → Bool) (enough : f + 1 ≤ count (size f) live) (q i : ℕ) (q_low : q < size f) (q_live : live q ≡ true) (lead : leader_of i < size f) (b : ℕ) (above : leader_of i < b) where
  abbrev Opened : List Sent → World → Type 0
  Opened = Open f live q i b

  said_about : (k : ℕ) (s : Sent) → Said f live q i b k s → instance_of_message s.message ≡ i
  said_about k s (prepare x ne e) = sym (ap (λ (z : Sent). instance_of_message z.message) e)
  said_about k s (prepare_ok x v ne l e) = sym (ap (λ (z : Sent). instance_of_message z.message) e)
  said_about k s (pre_accept x d ne h e) = sym (ap (λ (z : Sent). instance_of_message z.message) e)
  said_about k s (pre_accept_ok x a ne h e) = sym (ap (λ (z : Sent). instance_of_message z.message) e)
  said_about k s (accept x d ne h e) = sym (ap (λ (z : Sent). instance_of_message z.message) e)
  said_about k s (accept_ok x ne h e) = sym (ap (λ (z : Sent). instance_of_message z.message) e)

  -- what a handled message changes, at its receiver
  pub record Handled (w w' : World) (s : Sent) (r : ℕ) : Type 0 where
    pub low : r < size f
    pub is_live : live r ≡ true
    pub change : Change
    pub did : handled f r s.from (w.states r) s.message ≡ Ok change
    pub changed : Changed f live q i b w w' r change

  pub changed_by : (w : World) (a : Act) (ch : Change) → Done f i w a ch → Changed f live q i b w (moved f w a) a.replica ch
  changed_by w a ch d = record { here = d.here; apart = d.apart; before = d.before; new = d.new; only = d.only; sound = d.sound }

  pub handled_by : (w : World) (r : ℕ) (m : Frame) (done : List (ℕ × Answer)) → WorldSound f w → Happens f w (record { replica = r; event = Handle m; done = done }) → live r ≡ true → instance_of_message m.sent.message ≡ i → Handled w (moved f w (record { replica = r; event = Handle m; done = done })) m.sent m.sent.to
  handled_by w r m done ok h l about =
      let a : Act = record { replica = r; event = Handle m; done = done } in
      let mine : m.sent.to ≡ r = eqb-true m.sent.to r (unscreened f r (Handle m) (h.step).unscreened).1 in
      let t = taken_of (acts f r (w.states r) (Handle m)) (h.step).taken in
      let u = at_is (instance_of_message m.sent.message) (handled f r m.sent.from (w.states r) m.sent.message) t.0 t.1 in
      let did : acts f r (w.states r) (Handle m) ≡ Ok (i, (t.0).1) = t.1 ∙ ap (λ j. Ok (j, (t.0).1)) (u.1 ∙ about) in
      subst (λ k. Handled w (moved f w a) m.sent k) (sym mine)
      (record { low = h.replica; is_live = l; change = (t.0).1; did = u.0; changed = changed_by w a (t.0).1 (done_by f few i w ok a (t.0).1 h did) })

  step_open : (done : List Sent) (w : World) (r : ℕ) (m : Frame) (did : List (ℕ × Answer)) → Happens f w (record { replica = r; event = Handle m; done = did }) → live r ≡ true → Opened done w → Opened (m.sent ∷ done) (moved f w (record { replica = r; event = Handle m; done = did }))
  step_open done w r m did h l (prepares g) =
      let t = handled_by w r m did (g.base).sound h l (said_about 0 m.sent ((g.base).sent m.sent h.there)) in
      preparing_step f two few live q i q_low lead b above done w _ m.sent g h.there t.low t.is_live t.change t.did t.changed
  step_open done w r m did h l (proposes g) =
      let t = handled_by w r m did (g.base).sound h l (said_about 1 m.sent ((g.base).sent m.sent h.there)) in
      proposing_step f two few live q i q_low lead b above done w _ m.sent g h.there t.low t.is_live t.change t.did t.changed
  step_open done w r m did h l (accepts g) =
      let t = handled_by w r m did (g.base).sound h l (said_about 2 m.sent ((g.base).sent m.sent h.there)) in
      accepting_step f two few live q i q_low lead b above done w _ m.sent g h.there t.low t.is_live t.change t.did t.changed
  step_open done w r m did h l (ended e) = ended (e.0, permanence_holds f w (record { replica = r; event = Handle m; done = did } ∷ []) (h, tt) i q e.0 e.1)

  act_open : (done : List Sent) (w : World) (r : ℕ) (e : Event) (did : List (ℕ × Answer)) → Happens f w (record { replica = r; event = e; done = did }) → live r ≡ true → ((s : Sent) × Handles s e) → Opened done w → Opened (heard_by e done) (moved f w (record { replica = r; event = e; done = did }))
  act_open done w r (Propose client request c seen spared) did h l t g = absurd t.1
  act_open done w r (Handle m) did h l t g = step_open done w r m did h l g
  act_open done w r (GiveUp j) did h l t g = absurd t.1
  act_open done w r (Recover j) did h l t g = absurd t.1
  act_open done w r (Execute root) did h l t g = absurd t.1

  run_open : (late : List Act) (done : List Sent) (w : World) → IsRun f w late → Quiet live late → Opened done w → Opened (heard done late) (ends f w late)
  run_open [] done w run quiet g = g
  run_open (a ∷ late) done w run quiet g = run_open late (heard_by a.event done) (moved f w a) run.1 quiet.2 (act_open done w a.replica a.event a.done run.0 quiet.0 quiet.1 g)

  -- where all that was sent to live replicas is handled, the instance has ended
  open_ends : (done : List Sent) (w : World) → ((s : Sent) → In s w.sent → live s.to ≡ true → In s done) → Opened done w → Ended f live q i b w
  open_ends done w complete (ended e) = e
  open_ends done w complete (prepares g) = absurd (
      let all : count (size f) live ≤ answered_all f g.answers = count_le (size f) live (λ r. is_some (answer g.answers r)) (λ r lt l. elim (cases_eq r q) [
        | inl is ↦ subst (λ j. is_some (answer g.answers j) ≡ true) (sym is) g.own
        | inr ne ↦ (
            let at = g.promised r (complete (from_q f live q i b r (Prepare i b)) (g.asked r lt ne) l) in
            let t = g.answered r lt l ne at in
            g.counted r t.0 (complete (to_q f live q i b r (PrepareOk i b t.0)) t.1 q_live))
      ]) in
      let few = g.few in
      omega arith)
  open_ends done w complete (proposes g) = absurd (
      let all : count (size f) g.chosen ≤ others f q g.answers = count_le (size f) g.chosen (λ r. is_other q r && is_some (answer g.answers r)) (λ r lt e.
      let c = g.can r lt e in
      let t = g.answered r g.decree lt e (complete (from_q f live q i b r (PreAccept i b g.decree)) (g.asked r lt c.other) c.is_live) in
      and_from (is_other q r) _ (not_from_false _ (ne_eqb r q c.other)) (g.counted r t.0 (complete (to_q f live q i b r (PreAcceptOk i b t.0)) t.1 q_live))) in
      let few = g.few in
      let many = g.many in
      omega arith)
  open_ends done w complete (accepts g) = absurd (
      let all : count (size f) g.chosen ≤ others f q g.answers = count_le (size f) g.chosen (λ r. is_other q r && is_some (answer g.answers r)) (λ r lt e.
      let c = g.can r lt e in
      let t = g.answered r g.decree lt e (complete (from_q f live q i b r (Accept i b g.decree)) (g.asked r lt c.other) c.is_live) in
      and_from (is_other q r) _ (not_from_false _ (ne_eqb r q c.other)) (g.counted r (complete (to_q f live q i b r (AcceptOk i b)) t q_live))) in
      let few = g.few in
      let many = g.many in
      omega arith)

  -- the world behind the recovery
  begins_open : (w : World) → WorldSound f w → (v : Option Vote) → is_committed v ≡ false → ((x : ℕ) → x < size f → live x ≡ true → x ≢ q → (rec f live q i b w x).promised < b) →
      (w' : World) → (ch : Change) → ch.out ≡ to_those (is_other q) (size f) (Prepare i b) → Changed f live q i b (silenced w) w' q ch → rec f live q i b w' q ≡ record { promised = b; vote = v } →
      get (w'.states q).leads i ≡ Some (Preparing b (with_answer [] q v)) → Preparing0 f live q i b [] w'
  begins_open w ok v unended low w' ch out c mine led =
      let only : (s : Sent) → In s w'.sent → (x : ℕ) × (x ≢ q) × (from_q f live q i b x (Prepare i b) ≡ s) = λ s there. elim (c.only s there) [ inl old ↦ absurd old | inr new ↦ those_only q (size f) (Prepare i b) s (subst (λ l. In s (sent_from q l)) out new) ] in
      let apart : (k : ℕ) → k ≢ q → rec f live q i b w' k ≡ rec f live q i b w k = λ k ne. ap (λ (s : State). record_in s i) (c.apart k ne) in
      record {
        base = record {
          sound = c.sound;
          low = λ x lt l ne. (let less = low x lt l ne in subst (λ (r : Record). r.promised ≤ b) (sym (apart x ne)) (omega arith));
          sent = λ s there. (let t = only s there in prepare t.0 t.1 t.2);
          heard = λ s none. absurd none;
        };
        vote = v;
        answers = with_answer [] q v;
        mine = mine;
        unended = unended;
        led = led;
        few = (let o = own_answer f q (Option Vote) v q_low in omega arith);
        own = ap is_some (answer_here {X = Option Vote} [] q v);
        asked = λ x lt ne. c.new _ (subst (λ l. In (from_q f live q i b x (Prepare i b)) (sent_from q l)) (sym out) (others_there q x f (Prepare i b) lt ne));
        answered = λ x lt l ne at. absurd (let less = low x lt l ne in let same = ap (λ (r : Record). r.promised) (apart x ne) in omega arith);
        reported = λ x u there. absurd (let t = only _ there in let e : Prepare i b ≡ PrepareOk i b u = ap (λ (z : Sent). z.message) t.2 in cc);
        kept = λ x u e ne. absurd (elim (answer_back {X = Option Vote} [] q v x u e) [ inl none ↦ (let z : None ≡ Some u = none in cc) | inr t ↦ ne t.0 ]);
        promised = λ x none. absurd none;
        counted = λ x u none. absurd none;
      }

-- from any world in which each state is sound
pub round_ends_any : (f : ℕ) → 0 < f → size f ≤ 256 → (live : ℕ → Bool) → f + 1 ≤ count (size f) live → (q : ℕ) → q < size f → live q ≡ true → (i : ℕ) → leader_of i < size f → (w : World) → WorldSound f w →
    ((x : ℕ) → x < size f → live x ≡ true → x ≢ q → (record_in (w.states x) i).promised < next_ballot w q i) →
    (late : List Act) → IsRound f live q i w late → (d : Decree) × Committed (after_round f w q i late) q i d
round_ends_any f two few live enough q q_low q_live i lead w ok low late round =
    let v : World = silenced w in
    let b : ℕ = next_ballot w q i in
    let r : Record = record_in (w.states q) i in
    let above : leader_of i < b = omega arith in
    let first : Happens f v (recovering q i) = (round.run).0 in
    let t = taken_of (acts f q (v.states q) (Recover i)) (first.step).taken in
    let u = at_is i (recover f i q r (cell_in (w.states q) i).reported) t.0 t.1 in
    let is = recover_is f i q r (cell_in (w.states q) i).reported (t.0).1 u.0 in
    let did : acts f q (v.states q) (Recover i) ≡ Ok (i, (t.0).1) = t.1 ∙ ap (λ j. Ok (j, (t.0).1)) u.1 in
    let d : Done f i v (recovering q i) (t.0).1 = done_by f few i v (silenced_sound f w ok) (recovering q i) (t.0).1 first did in
    let w1 : World = moved f v (recovering q i) in
    let g : Preparing0 f live q i b [] w1 =
    begins_open f two few live enough q i q_low q_live lead b above w ok r.vote is.0 low w1 (t.0).1 (ap (λ (c : Change). c.out) is.1)
    (changed_by f two few live enough q i q_low q_live lead b above v (recovering q i) (t.0).1 d)
    (ap (record_of i) d.here ∙ ap (λ c. record_of i (applied (cell_in (v.states q) i) c)) is.1)
    (ap (λ (c : Cell). c.led) d.here ∙ ap (λ c. (applied (cell_in (v.states q) i) c).led) is.1) in
    open_ends f two few live enough q i q_low q_live lead b above (heard [] late) (ends f w1 late)
    (λ s there l. hears s late [] (round.complete s there l))
    (run_open f two few live enough q i q_low q_live lead b above late [] w1 (round.run).1 round.quiet (prepares g))

pub round_ends_lem : RoundEnds
round_ends_lem base f two few early run live enough q q_low q_live i lead low late round =
    round_ends_any f two few live enough q q_low q_live i lead (ends f (opening base) early) (run_sound f few early (opening base) run (opening_sound f base)) low late round

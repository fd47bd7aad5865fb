-- After a round that hasn't ended its instance a second one ends it: its ballot is above all that the live replicas have promised.
use Rattle.std.proofs.Common.{◌≡◌, ◌≢◌, ℕ, ◌+◌, ◌<◌, ◌≤◌, max, Bool, true, Option, Some, None, Ok, List, [], ◌∷◌, refl, sym, ap, subst, ◌∙◌, inl, inr, ◌⊎◌, arith}
use Rattle.std.proofs.lemmas.Bool.{cases_eq}
use Rattle.ep_base.specs.Ballots.{counter_of}
use Rattle.ep_base.specs.Instances.{leader_of}
use Rattle.ep_base.specs.Messages.{instance_of_message}
use Rattle.ep_base.specs.Quorums.{size}
use Rattle.ep_base.specs.declared.decree.Decree.{Decree}
use Rattle.ep_base.specs.declared.message.Message.{Message}
use Rattle.ep_base.specs.declared.message.Message.TheVariants.{PreAccept, PreAcceptOk, Accept, AcceptOk, Commit, Prepare, PrepareOk, Nack}
use Rattle.ep_base.specs.declared.reply.Answer.{Answer}
use Rattle.ep_base.specs.declared.vote.Vote.{Vote}
use Rattle.ep_rules.specs.Cells.{Change, record_or_fresh, Cell}
use Rattle.ep_rules.specs.Counting.{count, to_those, is_other}
use Rattle.ep_rules.specs.InterferenceSet.{interference}
use Rattle.ep_rules.specs.Maps.{get}
use Rattle.ep_rules.specs.Phases.{Outcome}
use Rattle.ep_rules.specs.Recovery.{recover, on_prepare, on_nack}
use Rattle.ep_rules.specs.States.{State, cell_in, record_in}
use Rattle.ep_rules.specs.Steps.{Sent, Event, Propose, Handle, GiveUp, Recover, Execute, handled, at, acts, sent_from}
use Rattle.ep_rules.specs.Worlds.{World, opening, In, Act, Happens, moved, IsRun, ends, Committed}
use Rattle.ep_rules.specs.declared.record.Record.{Record}
use Rattle.ep_rules.proofs.Keeping.{AllSent, applied, record_of, newer, newer_entry}
use Rattle.ep_rules.proofs.Moves.{taken_of}
use Rattle.ep_laws.specs.Alone.{silenced}
use Rattle.ep_laws.specs.Quiet.{Handles, Quiet, recovering, IsRound, after_round, next_ballot, Unstuck}
use Rattle.ep_laws.proofs.Acting.{others_there, those_only, Done, done_by}
use Rattle.ep_laws.proofs.AnyOrder.{from_q, to_q, rec, Changed}
use Rattle.ep_laws.proofs.AnyRun.{at_is, recover_is, heard_by, heard, hears, changed_by, handled_by, round_ends_any}
use Rattle.ep_laws.proofs.Counters.{Asking, ask_prepare, ask_pre_accept, ask_accept, report_commit, Reporting, report_prepare, report_pre_accept, report_accept, report_nack, Spoke, asks, reports, PeerFine, PeerOk, LeaderOk, peer_prepare, peer_accept, peer_pre_accept, peer_commit, LeaderFine, leader_pre_accept_ok, leader_accept_ok, leader_prepare_ok}
use Rattle.ep_laws.proofs.Rules.{prepare_refused}
use Rattle.ep_laws.proofs.Sound.{WorldSound, run_sound, opening_sound, silenced_sound}

newer_record : (i : ℕ) (o e : Option Record) → record_or_fresh i (newer_entry o e) ≡ newer o (record_or_fresh i e)
newer_record i None e = refl
newer_record i (Some y) e = refl

ok_is : (o : Outcome) (x ch : Change) → o ≡ Ok x → o ≡ Ok ch → ch ≡ x
ok_is o x ch e h = cc

module _ (f : ℕ) (live : ℕ → Bool) (q i b : ℕ) where
  abbrev down : ℕ → Message → Sent
  down = from_q f live q i b

  abbrev up : ℕ → Message → Sent
  up = to_q f live q i b

  abbrev recd : World → ℕ → Record
  recd = rec f live q i b

  abbrev reported : World → ℕ
  reported w = (cell_in (w.states q) i).reported

  -- x has promised b at most, or more, and says so where it is asked
  abbrev Each : List Sent → World → ℕ → Type 0
  Each done w x = ((recd w x).promised ≤ b) ⊎ ((b < (recd w x).promised) × (In (down x (Prepare i b)) done → In (up x (Nack i b (recd w x).promised)) w.sent))

  pub record Knows (done : List Sent) (w : World) : Type 0 where
    pub sound : WorldSound f w
    pub at : (recd w q).promised ≡ b
    pub sent : (s : Sent) → In s w.sent → Spoke f live q i b s
    pub asked : (x : ℕ) → x < size f → x ≢ q → In (down x (Prepare i b)) w.sent
    pub each : (x : ℕ) → x < size f → live x ≡ true → x ≢ q → Each done w x
    pub nacks : (x p : ℕ) → In (up x (Nack i b p)) done → counter_of p ≤ reported w

  now_record : (w w' : World) (r : ℕ) (ch : Change) → Changed f live q i b w w' r ch → recd w' r ≡ newer ch.entry (recd w r)
  now_record w w' r ch c = ap (record_of i) c.here ∙ newer_record i ch.entry (cell_in (w.states r) i).entry

  peer_spoke : (x : ℕ) → x ≢ q → (out : List (ℕ × Message)) → AllSent (λ to m. (to ≡ q) × Reporting f live q i b m) out → (t : Sent) → In t (sent_from x out) → Spoke f live q i b t
  peer_spoke x ne [] all t there = absurd there
  peer_spoke x ne (o ∷ os) all t (inl e) = reports x o.1 ne (all.0).1 (ap (λ k. record { from = x; to = k; message = o.1 }) (sym (all.0).0) ∙ e)
  peer_spoke x ne (o ∷ os) all t (inr there) = peer_spoke x ne os all.1 t there

  leader_spoke : (out : List (ℕ × Message)) → AllSent (λ to m. (to ≢ q) × Asking f live q i b m) out → (t : Sent) → In t (sent_from q out) → Spoke f live q i b t
  leader_spoke [] all t there = absurd there
  leader_spoke (o ∷ os) all t (inl e) = asks o.0 o.1 (all.0).0 (all.0).1 e
  leader_spoke (o ∷ os) all t (inr there) = leader_spoke os all.1 t there

  knows_peer : (done : List Sent) (w w' : World) (x : ℕ) (m : Message) (ch : Change) → x ≢ q → PeerFine f live q i b (recd w x) ch → (m ≡ Prepare i b → b < (recd w x).promised → ch.out ≡ (q, Nack i b (recd w x).promised) ∷ []) →
      Changed f live q i b w w' x ch → Knows done w → Knows (down x m ∷ done) w'
  knows_peer done w w' x m ch ne fine nack c g =
      let now : recd w' x ≡ newer ch.entry (recd w x) = now_record w w' x ch c in
      let keeps : (k : ℕ) → k ≢ x → recd w' k ≡ recd w k = λ k other. ap (λ (s : State). record_in s i) (c.apart k other) in
      record {
        sound = c.sound;
        at = ap (λ (r : Record). r.promised) (keeps q (λ e. ne (sym e))) ∙ g.at;
        sent = λ t h. elim (c.only t h) [ inl old ↦ g.sent t old | inr new ↦ peer_spoke x ne ch.out fine.out t new ];
        asked = λ k lt other. c.before _ (g.asked k lt other);
        each = λ k lt l other. elim (cases_eq k x) [
          | inl is ↦ subst (λ j. Each (down x m ∷ done) w' j) (sym is) (each_here done w w' x m ch fine nack c now (subst (λ j. Each done w j) is (g.each k lt l other)))
          | inr apart ↦ each_there done w w' x m c k apart (keeps k apart) (g.each k lt l other)
        ];
        nacks = λ k p h. elim h [
          | inl e ↦ absurd (ne (ap (λ (z : Sent). z.to) e))
          | inr old ↦ subst (λ (s : State). counter_of p ≤ (cell_in s i).reported) (sym (c.apart q (λ e. ne (sym e)))) (g.nacks k p old)
        ];
      }
    where
      each_here : (done : List Sent) (w w' : World) (x : ℕ) (m : Message) (ch : Change) → PeerFine f live q i b (recd w x) ch → (m ≡ Prepare i b → b < (recd w x).promised → ch.out ≡ (q, Nack i b (recd w x).promised) ∷ []) → Changed f live q i b w w' x ch → recd w' x ≡ newer ch.entry (recd w x) → Each done w x → Each (down x m ∷ done) w' x
      each_here done w w' x m ch fine nack c now (inl low) = inl (subst (λ (r : Record). r.promised ≤ b) (sym now) (fine.low low))
      each_here done w w' x m ch fine nack c now (inr t) =
          let same : (recd w' x).promised ≡ (recd w x).promised = ap (λ (r : Record). r.promised) now ∙ fine.high t.0 in
          inr (
            (omega arith),
            λ h. subst (λ p. In (up x (Nack i b p)) w'.sent) (sym same) (elim h [
              | inl e ↦ c.new _ (subst (λ l. In (up x (Nack i b (recd w x).promised)) (sent_from x l)) (sym (nack (ap (λ (z : Sent). z.message) e) t.0)) (inl refl))
              | inr old ↦ c.before _ (t.1 old)
            ]),
          )

      each_there : (done : List Sent) (w w' : World) (x : ℕ) (m : Message) {ch : Change} → Changed f live q i b w w' x ch → (k : ℕ) → k ≢ x → recd w' k ≡ recd w k → Each done w k → Each (down x m ∷ done) w' k
      each_there done w w' x m c k other same (inl low) = inl (subst (λ (r : Record). r.promised ≤ b) (sym same) low)
      each_there done w w' x m c k other same (inr t) =
          let at : (recd w' k).promised ≡ (recd w k).promised = ap (λ (r : Record). r.promised) same in
          inr (
            (let less = t.0 in omega arith),
            λ h. subst (λ p. In (up k (Nack i b p)) w'.sent) (sym at) (elim h [
              | inl e ↦ absurd (other (sym (ap (λ (z : Sent). z.to) e)))
              | inr old ↦ c.before _ (t.1 old)
            ]),
          )

  knows_leader : (done : List Sent) (w w' : World) (x : ℕ) (m : Message) (ch : Change) → x ≢ q → (newer ch.entry (recd w q)).promised ≡ b → AllSent (λ to n. (to ≢ q) × Asking f live q i b n) ch.out → reported w ≤ newer ch.reported (reported w) → ((p : ℕ) → m ≡ Nack i b p → counter_of p ≤ newer ch.reported (reported w)) →
      Changed f live q i b w w' q ch → Knows done w → Knows (up x m ∷ done) w'
  knows_leader done w w' x m ch ne at out more hears c g =
      let now : reported w' ≡ newer ch.reported (reported w) = ap (λ (z : Cell). z.reported) c.here in
      record {
        sound = c.sound;
        at = ap (λ (r : Record). r.promised) (now_record w w' q ch c) ∙ at;
        sent = λ t h. elim (c.only t h) [ inl old ↦ g.sent t old | inr new ↦ leader_spoke ch.out out t new ];
        asked = λ k lt other. c.before _ (g.asked k lt other);
        each = λ k lt l other. each_kept k other (ap (λ (s : State). record_in s i) (c.apart k other)) (g.each k lt l other);
        nacks = λ k p h. elim h [
          | inl e ↦ (let t = hears p (ap (λ (z : Sent). z.message) e) in omega arith)
          | inr old ↦ (let t = g.nacks k p old in omega arith)
        ];
      }
    where
      each_kept : (k : ℕ) → k ≢ q → recd w' k ≡ recd w k → Each done w k → Each (up x m ∷ done) w' k
      each_kept k other same (inl low) = inl (subst (λ (r : Record). r.promised ≤ b) (sym same) low)
      each_kept k other same (inr t) =
          let at : (recd w' k).promised ≡ (recd w k).promised = ap (λ (r : Record). r.promised) same in
          inr (
            (let less = t.0 in omega arith),
            λ h. subst (λ p. In (up k (Nack i b p)) w'.sent) (sym at) (elim h [
              | inl e ↦ absurd (other (sym (ap (λ (z : Sent). z.to) e)))
              | inr old ↦ c.before _ (t.1 old)
            ]),
          )

  abbrev Handling : World → World → List Sent → Sent → Type 0
  Handling w w' done s = (ch : Change) → handled f s.to s.from (w.states s.to) s.message ≡ Ok ch → Changed f live q i b w w' s.to ch → Knows (s ∷ done) w'

  fine_of : (r : Record) (o : Outcome) (ch : Change) → o ≡ Ok ch → PeerOk f live q i b r o → PeerFine f live q i b r ch
  fine_of r o ch e p = subst (PeerOk f live q i b r) e p

  led_of : (r : Record) (o : Outcome) (ch : Change) → o ≡ Ok ch → LeaderOk f live q i b r o → LeaderFine f live q i b r ch
  led_of r o ch e p = subst (LeaderOk f live q i b r) e p

  asked_step : (done : List Sent) (w w' : World) (x : ℕ) (m : Message) → x ≢ q → Knows done w → Asking f live q i b m → Handling w w' done (down x m)
  asked_step done w w' x m ne g (ask_prepare e) = subst (λ z. Handling w w' done (down x z)) e (λ ch h c.
      let is : on_prepare i q b (recd w x) ≡ ch = sym (ok_is _ (on_prepare i q b (recd w x)) ch refl h) in
      knows_peer done w w' x (Prepare i b) ch ne (fine_of (recd w x) (Ok (on_prepare i q b (recd w x))) ch h (peer_prepare f live q i b (recd w x)))
      (λ u higher. ap (λ (y : Change). y.out) (sym is ∙ prepare_refused i q b (recd w x) higher)) c g)
  asked_step done w w' x m ne g (ask_pre_accept d e) = subst (λ z. Handling w w' done (down x z)) e (λ ch h c.
      knows_peer done w w' x (PreAccept i b d) ch ne (fine_of (recd w x) _ ch h (peer_pre_accept f live q i b d (interference (w.states x).records i d.command) (recd w x))) (λ u higher. absurd (cc)) c g)
  asked_step done w w' x m ne g (ask_accept d e) = subst (λ z. Handling w w' done (down x z)) e (λ ch h c.
      knows_peer done w w' x (Accept i b d) ch ne (fine_of (recd w x) _ ch h (peer_accept f live q i b d (recd w x))) (λ u higher. absurd (cc)) c g)
  asked_step done w w' x m ne g (report_commit d e) = subst (λ z. Handling w w' done (down x z)) e (λ ch h c.
      knows_peer done w w' x (Commit i d) ch ne (fine_of (recd w x) _ ch h (peer_commit f live q i b d (recd w x))) (λ u higher. absurd (cc)) c g)

  same_reported : (w : World) (ch : Change) → ch.reported ≡ None → newer ch.reported (reported w) ≡ reported w
  same_reported w ch e = ap (λ o. newer o (reported w)) e

  led_step : (done : List Sent) (w w' : World) (x : ℕ) (m : Message) (ch : Change) → x ≢ q → Knows done w → ((p : ℕ) → m ≡ Nack i b p → ⊥) → LeaderFine f live q i b (recd w q) ch → Changed f live q i b w w' q ch → Knows (up x m ∷ done) w'
  led_step done w w' x m ch ne g other fine c =
      let same : newer ch.reported (reported w) ≡ reported w = same_reported w ch fine.reported in
      knows_leader done w w' x m ch ne (fine.at g.at) fine.out (omega arith) (λ p e. absurd (other p e)) c g

  reported_step : (done : List Sent) (w w' : World) (x : ℕ) (m : Message) → x ≢ q → Knows done w → Reporting f live q i b m → Handling w w' done (up x m)
  reported_step done w w' x m ne g (report_prepare v e) = subst (λ z. Handling w w' done (up x z)) e (λ ch h c.
      led_step done w w' x (PrepareOk i b v) ch ne g (λ p u. cc) (led_of (recd w q) _ ch h (leader_prepare_ok f live q i b (recd w q) x v (interference (w.states q).records i) (get (w.states q).leads i))) c)
  reported_step done w w' x m ne g (report_pre_accept a e) = subst (λ z. Handling w w' done (up x z)) e (λ ch h c.
      led_step done w w' x (PreAcceptOk i b a) ch ne g (λ p u. cc) (led_of (recd w q) _ ch h (leader_pre_accept_ok f live q i b (recd w q) x a (get (w.states q).leads i))) c)
  reported_step done w w' x m ne g (report_accept e) = subst (λ z. Handling w w' done (up x z)) e (λ ch h c.
      led_step done w w' x (AcceptOk i b) ch ne g (λ p u. cc) (led_of (recd w q) _ ch h (leader_accept_ok f live q i b (recd w q) x (get (w.states q).leads i))) c)
  reported_step done w w' x m ne g (report_nack p e) = subst (λ z. Handling w w' done (up x z)) e (λ ch h c.
      let n : Change = on_nack p (reported w) in
      let is : ch ≡ n = ok_is _ n ch refl h in
      knows_leader done w w' x (Nack i b p) ch ne
      (ap (λ (y : Change). (newer y.entry (recd w q)).promised) is ∙ g.at)
      (subst (λ (y : Change). AllSent (λ to z. (to ≢ q) × Asking f live q i b z) y.out) (sym is) tt)
      (subst (λ (y : Change). reported w ≤ newer y.reported (reported w)) (sym is) (omega arith))
      (λ r u. let same : p ≡ r = cc in subst (λ z. counter_of z ≤ newer ch.reported (reported w)) same (subst (λ (y : Change). counter_of p ≤ newer y.reported (reported w)) (sym is) (omega arith))) c g)

  pub knows_step : (done : List Sent) (w w' : World) (s : Sent) → Knows done w → In s w.sent → Handling w w' done s
  knows_step done w w' s g there = elim (g.sent s there) [
    | asks x m ne a e ↦ subst (λ t. Handling w w' done t) e (asked_step done w w' x m ne g a)
    | reports x m ne a e ↦ subst (λ t. Handling w w' done t) e (reported_step done w w' x m ne g a)
  ]

  asking_about : (m : Message) → Asking f live q i b m → instance_of_message m ≡ i
  asking_about m (ask_prepare e) = sym (ap instance_of_message e)
  asking_about m (ask_pre_accept d e) = sym (ap instance_of_message e)
  asking_about m (ask_accept d e) = sym (ap instance_of_message e)
  asking_about m (report_commit d e) = sym (ap instance_of_message e)

  reporting_about : (m : Message) → Reporting f live q i b m → instance_of_message m ≡ i
  reporting_about m (report_prepare v e) = sym (ap instance_of_message e)
  reporting_about m (report_pre_accept a e) = sym (ap instance_of_message e)
  reporting_about m (report_accept e) = sym (ap instance_of_message e)
  reporting_about m (report_nack p e) = sym (ap instance_of_message e)

  pub spoke_about : (s : Sent) → Spoke f live q i b s → instance_of_message s.message ≡ i
  spoke_about s (asks x m ne a e) = sym (ap (λ (z : Sent). instance_of_message z.message) e) ∙ asking_about m a
  spoke_about s (reports x m ne a e) = sym (ap (λ (z : Sent). instance_of_message z.message) e) ∙ reporting_about m a

module _ (f : ℕ) (two : 0 < f) (few : size f ≤ 256) (live : ℕ → Bool) (enough : f + 1 ≤ count (size f) live) (q i : ℕ) (q_low : q < size f) (q_live : live q ≡ true) (lead : leader_of i < size f) (b : ℕ) (above : leader_of i < b) where
  act_knows : (done : List Sent) (w : World) (r : ℕ) (e : Event) (did : List (ℕ × Answer)) → Happens f w (record { replica = r; event = e; done = did }) → live r ≡ true → ((s : Sent) × Handles s e) → Knows f live q i b done w → Knows f live q i b (heard_by e done) (moved f w (record { replica = r; event = e; done = did }))
  act_knows done w r (Propose client request c seen spared) did h l t g = absurd t.1
  act_knows done w r (Handle m) did h l t g =
      let u = handled_by f two few live enough q i q_low q_live lead b above w r m did g.sound h l (spoke_about f live q i b m.sent (g.sent m.sent h.there)) in
      knows_step f live q i b done w _ m.sent g h.there u.change u.did u.changed
  act_knows done w r (GiveUp j) did h l t g = absurd t.1
  act_knows done w r (Recover j) did h l t g = absurd t.1
  act_knows done w r (Execute root) did h l t g = absurd t.1

  run_knows : (late : List Act) (done : List Sent) (w : World) → IsRun f w late → Quiet live late → Knows f live q i b done w → Knows f live q i b (heard done late) (ends f w late)
  run_knows [] done w run quiet g = g
  run_knows (a ∷ late) done w run quiet g = run_knows late (heard_by a.event done) (moved f w a) run.1 quiet.2 (act_knows done w a.replica a.event a.done run.0 quiet.0 quiet.1 g)

  -- where all that was sent to live replicas is handled, q knows the counters
  knows_all : (done : List Sent) (w : World) → ((s : Sent) → In s w.sent → live s.to ≡ true → In s done) → Knows f live q i b done w → (x : ℕ) → x < size f → live x ≡ true → x ≢ q → counter_of (record_in (w.states x) i).promised ≤ max (counter_of (record_in (w.states q) i).promised) (cell_in (w.states q) i).reported
  knows_all done w complete g x lt l ne =
      let at : counter_of (record_in (w.states q) i).promised ≡ counter_of b = ap counter_of g.at in
      elim (g.each x lt l ne) [
        | inl low ↦ omega arith
        | inr t ↦ (let n = g.nacks x _ (complete (to_q f live q i b x (Nack i b (record_in (w.states x) i).promised)) (t.1 (complete (from_q f live q i b x (Prepare i b)) (g.asked x lt ne) l)) q_live) in omega arith)
      ]

  order : (a c : ℕ) → (a ≤ c) ⊎ (c < a)
  order a c = grind arith

  begins_knows : (w w' : World) (ch : Change) (v : Option Vote) → ch.out ≡ to_those (is_other q) (size f) (Prepare i b) → Changed f live q i b (silenced w) w' q ch → rec f live q i b w' q ≡ record { promised = b; vote = v } → Knows f live q i b [] w'
  begins_knows w w' ch v out c mine =
      let only : (s : Sent) → In s w'.sent → (x : ℕ) × (x ≢ q) × (from_q f live q i b x (Prepare i b) ≡ s) = λ s there. elim (c.only s there) [ inl old ↦ absurd old | inr new ↦ those_only q (size f) (Prepare i b) s (subst (λ l. In s (sent_from q l)) out new) ] in
      record {
        sound = c.sound;
        at = ap (λ (r : Record). r.promised) mine;
        sent = λ s there. (let t = only s there in asks t.0 (Prepare i b) t.1 (ask_prepare refl) t.2);
        asked = λ x lt ne. c.new _ (subst (λ l. In (from_q f live q i b x (Prepare i b)) (sent_from q l)) (sym out) (others_there q x f (Prepare i b) lt ne));
        each = λ x lt l ne. elim (order (rec f live q i b w' x).promised b) [ inl low ↦ inl low | inr high ↦ inr (high, λ none. absurd none) ];
        nacks = λ x p none. absurd none;
      }

module _ (f : ℕ) (two : 0 < f) (few : size f ≤ 256) (live : ℕ → Bool) (enough : f + 1 ≤ count (size f) live) (q i : ℕ) (q_low : q < size f) (q_live : live q ≡ true) (lead : leader_of i < size f) (w : World) (ok : WorldSound f w) (late : List Act) (round : IsRound f live q i w late) where
  pub round_reports : (x : ℕ) → x < size f → live x ≡ true → x ≢ q → let v = after_round f w q i late in counter_of (record_in (v.states x) i).promised ≤ max (counter_of (record_in (v.states q) i).promised) (cell_in (v.states q) i).reported
  round_reports =
      let v : World = silenced w in
      let b : ℕ = next_ballot w q i in
      let r : Record = record_in (w.states q) i in
      let above : leader_of i < b = omega arith in
      let first : Happens f v (recovering q i) = (round.run).0 in
      let t = taken_of (acts f q (v.states q) (Recover i)) (first.step).taken in
      let u = at_is i (recover f i q r (cell_in (w.states q) i).reported) t.0 t.1 in
      let is = recover_is f i q r (cell_in (w.states q) i).reported (t.0).1 u.0 in
      let did : acts f q (v.states q) (Recover i) ≡ Ok (i, (t.0).1) = t.1 ∙ ap (λ j. Ok (j, (t.0).1)) u.1 in
      let d : Done f i v (recovering q i) (t.0).1 = done_by f few i v (silenced_sound f w ok) (recovering q i) (t.0).1 first did in
      let w1 : World = moved f v (recovering q i) in
      let g : Knows f live q i b [] w1 =
      begins_knows f two few live enough q i q_low q_live lead b above w w1 (t.0).1 r.vote (ap (λ (c : Change). c.out) is.1)
      (changed_by f two few live enough q i q_low q_live lead b above v (recovering q i) (t.0).1 d)
      (ap (record_of i) d.here ∙ ap (λ c. record_of i (applied (cell_in (v.states q) i) c)) is.1) in
      knows_all f two few live enough q i q_low q_live lead b above (heard [] late) (ends f w1 late)
      (λ s there l. hears s late [] (round.complete s there l))
      (run_knows f two few live enough q i q_low q_live lead b above late [] w1 (round.run).1 round.quiet g)

-- from any world in which each state is sound
pub unstuck_any : (f : ℕ) → 0 < f → size f ≤ 256 → (live : ℕ → Bool) → f + 1 ≤ count (size f) live → (q : ℕ) → q < size f → live q ≡ true → (i : ℕ) → leader_of i < size f → (w : World) → WorldSound f w →
    (first second : List Act) → IsRound f live q i w first → IsRound f live q i (after_round f w q i first) second → (d : Decree) × Committed (after_round f (after_round f w q i first) q i second) q i d
unstuck_any f two few live enough q q_low q_live i lead w ok first second once twice =
    round_ends_any f two few live enough q q_low q_live i lead (after_round f w q i first) (run_sound f few (recovering q i ∷ first) (silenced w) once.run (silenced_sound f w ok))
    (λ x lt l ne. let t = round_reports f two few live enough q i q_low q_live lead w ok first once x lt l ne in omega arith)
    second twice

pub unstuck_lem : Unstuck
unstuck_lem base f two few early run live enough q q_low q_live i lead first second once twice =
    unstuck_any f two few live enough q q_low q_live i lead (ends f (opening base) early) (run_sound f few early (opening base) run (opening_sound f base)) first second once twice

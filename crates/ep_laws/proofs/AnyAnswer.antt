-- A round, message by message: each phase of the leader stays as it should be, or goes on to the next one.
use Rattle.std.proofs.Common.{◌≡◌, ◌≢◌, ℕ, ◌+◌, ◌<◌, ◌≤◌, Bool, true, false, ◌&&◌, not, eqb, leb, Option, Some, None, is_some, Ok, List, [], ◌∷◌, refl, sym, ap, subst, ◌∙◌, inl, inr, ◌⊎◌, arith}
use Rattle.std.proofs.lemmas.Bool.{and_parts, and_from, leb-true, leb-false, eq-eqb, not-true, false≢true, cases_eq}
use Rattle.ep_base.specs.Attributes.{join}
use Rattle.ep_base.specs.Instances.{leader_of}
use Rattle.ep_base.specs.Quorums.{size}
use Rattle.ep_base.specs.Commands.{Command}
use Rattle.ep_base.specs.declared.attrs.Attrs.{Attrs}
use Rattle.ep_base.specs.declared.decree.Decree.{Decree}
use Rattle.ep_base.specs.declared.message.Message.{Message}
use Rattle.ep_base.specs.declared.message.Message.TheVariants.{PreAccept, PreAcceptOk, Accept, AcceptOk, Prepare, PrepareOk}
use Rattle.ep_base.specs.declared.vote.VoteStatus.TheVariants.{PreAccepted, Accepted}
use Rattle.ep_base.specs.declared.vote.Vote.{Vote}
use Rattle.ep_rules.specs.Answers.{Answers, answer, with_answer}
use Rattle.ep_rules.specs.Cells.{Change, nothing, kept, recorded, voted, voted_ballot, is_committed, is_done_at, is_settled_at, committed_decree, Cell}
use Rattle.ep_rules.specs.Counting.{count, to_those, is_other}
use Rattle.ep_rules.specs.InterferenceSet.{interference}
use Rattle.ep_rules.specs.Maps.{get}
use Rattle.ep_rules.specs.Phases.{Outcome, others, accept_phase, commit_phase, joined, with_attrs, on_pre_accept_ok}
use Rattle.ep_rules.specs.Recovery.{answered_all, votes, did_commit, choose, act_on, on_prepare, on_prepare_ok}
use Rattle.ep_rules.specs.States.{State, cell_in, record_in}
use Rattle.ep_rules.specs.Steps.{Sent, handled, sent_from}
use Rattle.ep_rules.specs.Worlds.{World, In}
use Rattle.ep_rules.specs.declared.led_instance.LedInstance.{LedInstance}
use Rattle.ep_rules.specs.declared.led_instance.LedInstance.TheVariants.{Proposing, Accepting, Preparing}
use Rattle.ep_rules.specs.declared.record.Record.{Record}
use Rattle.ep_rules.proofs.Counting.{count_without, count_le}
use Rattle.ep_rules.proofs.Keeping.{applied, record_of}
use Rattle.ep_rules.proofs.Lookups.{answer_back}
use Rattle.ep_laws.proofs.Acting.{those_only, others_there}
use Rattle.ep_laws.proofs.AnyOrder.{from_q, to_q, Said, prepare, prepare_ok, pre_accept, pre_accept_ok, accept, accept_ok, said_later, rec, Base, PromisedReport, Preparing0, Proposing1, Accepting2, Ended, Open, prepares, proposes, accepts, ended, Changed, same_by, preparing_same, proposing_same, accepting_same, reported_by, proposing_reported, accepting_reported, preparing_reported}
use Rattle.ep_laws.proofs.Rules.{not_done, done_settled, prepare_answered, prepare_idle, prepare_waits, prepare_chooses, prepare_known, Chose, chose_commit, chose_accept, chose_propose, chose, chooses, vote_open, pre_accept_cases, pre_accept_waits, pre_accept_accepts, pre_accept_known, accept_cases, accept_waits, accept_commits, accept_known}
use Rattle.ep_laws.proofs.Sound.{WorldSound, record_sound}
use Rattle.ep_laws.proofs.Tally.{answer_here, answer_there, no_others}

some_is : {X : Type 0} (o : Option X) → is_some o ≡ true → (x : X) × (o ≡ Some x)
some_is None e = absurd (cc)
some_is (Some x) e = (x, refl)

-- What is said in a phase was not said before it.
module _ (f : ℕ) (live : ℕ → Bool) (q i b : ℕ) where
  pub said_apart : (k : ℕ) (s : Sent) → Said f live q i b k s → s.from ≢ s.to
  said_apart k s (prepare x ne e) = subst (λ (z : Sent). z.from ≢ z.to) e (λ h. ne (sym h))
  said_apart k s (prepare_ok x v ne l e) = subst (λ (z : Sent). z.from ≢ z.to) e ne
  said_apart k s (pre_accept x d ne h e) = subst (λ (z : Sent). z.from ≢ z.to) e (λ h. ne (sym h))
  said_apart k s (pre_accept_ok x a ne h e) = subst (λ (z : Sent). z.from ≢ z.to) e ne
  said_apart k s (accept x d ne h e) = subst (λ (z : Sent). z.from ≢ z.to) e (λ h. ne (sym h))
  said_apart k s (accept_ok x ne h e) = subst (λ (z : Sent). z.from ≢ z.to) e ne

  said_pre_accept : (k x : ℕ) (d : Decree) → Said f live q i b k (from_q f live q i b x (PreAccept i b d)) → 1 ≤ k
  said_pre_accept k x d (prepare y ne e) = absurd (let t = ap (λ (z : Sent). z.message) e in cc)
  said_pre_accept k x d (prepare_ok y v ne l e) = absurd (let t = ap (λ (z : Sent). z.message) e in cc)
  said_pre_accept k x d (pre_accept y u ne h e) = h
  said_pre_accept k x d (pre_accept_ok y a ne h e) = h
  said_pre_accept k x d (accept y u ne h e) = omega arith
  said_pre_accept k x d (accept_ok y ne h e) = omega arith

  said_pre_accept_ok : (k x : ℕ) (a : Attrs) → Said f live q i b k (to_q f live q i b x (PreAcceptOk i b a)) → 1 ≤ k
  said_pre_accept_ok k x a (prepare y ne e) = absurd (let t = ap (λ (z : Sent). z.message) e in cc)
  said_pre_accept_ok k x a (prepare_ok y v ne l e) = absurd (let t = ap (λ (z : Sent). z.message) e in cc)
  said_pre_accept_ok k x a (pre_accept y u ne h e) = h
  said_pre_accept_ok k x a (pre_accept_ok y u ne h e) = h
  said_pre_accept_ok k x a (accept y u ne h e) = omega arith
  said_pre_accept_ok k x a (accept_ok y ne h e) = omega arith

  said_accept : (k x : ℕ) (d : Decree) → Said f live q i b k (from_q f live q i b x (Accept i b d)) → 2 ≤ k
  said_accept k x d (prepare y ne e) = absurd (let t = ap (λ (z : Sent). z.message) e in cc)
  said_accept k x d (prepare_ok y v ne l e) = absurd (let t = ap (λ (z : Sent). z.message) e in cc)
  said_accept k x d (pre_accept y u ne h e) = absurd (let t = ap (λ (z : Sent). z.message) e in cc)
  said_accept k x d (pre_accept_ok y u ne h e) = absurd (let t = ap (λ (z : Sent). z.message) e in cc)
  said_accept k x d (accept y u ne h e) = h
  said_accept k x d (accept_ok y ne h e) = h

  said_accept_ok : (k x : ℕ) → Said f live q i b k (to_q f live q i b x (AcceptOk i b)) → 2 ≤ k
  said_accept_ok k x (prepare y ne e) = absurd (let t = ap (λ (z : Sent). z.message) e in cc)
  said_accept_ok k x (prepare_ok y v ne l e) = absurd (let t = ap (λ (z : Sent). z.message) e in cc)
  said_accept_ok k x (pre_accept y u ne h e) = absurd (let t = ap (λ (z : Sent). z.message) e in cc)
  said_accept_ok k x (pre_accept_ok y u ne h e) = absurd (let t = ap (λ (z : Sent). z.message) e in cc)
  said_accept_ok k x (accept y u ne h e) = h
  said_accept_ok k x (accept_ok y ne h e) = h

module _ (f : ℕ) (two : 0 < f) (few : size f ≤ 256) (live : ℕ → Bool) (q i : ℕ) (q_low : q < size f) (lead : leader_of i < size f) (b : ℕ) (above : leader_of i < b) where
  abbrev down : ℕ → Message → Sent
  down = from_q f live q i b

  abbrev up : ℕ → Message → Sent
  up = to_q f live q i b

  abbrev recd : World → ℕ → Record
  recd = rec f live q i b

  abbrev Change0 : World → World → ℕ → Change → Type 0
  Change0 = Changed f live q i b

  abbrev Opened : List Sent → World → Type 0
  Opened = Open f live q i b

  -- The leader keeps an answer.
  record Kept (w w' : World) (l : LedInstance) : Type 0 where
    mine : recd w' q ≡ recd w q
    led : get (w'.states q).leads i ≡ Some l
    apart : (k : ℕ) → k ≢ q → recd w' k ≡ recd w k
    before : (s : Sent) → In s w.sent → In s w'.sent
    only : (s : Sent) → In s w'.sent → In s w.sent
    sound : WorldSound f w'

  kept_by : (w w' : World) (l : LedInstance) (ch : Change) → Change0 w w' q ch → ch ≡ kept l → Kept w w' l
  kept_by w w' l ch c is = record {
    mine = ap (record_of i) c.here ∙ ap (λ e. record_of i (applied (cell_in (w.states q) i) e)) is;
    led = ap (λ (x : Cell). x.led) c.here ∙ ap (λ e. (applied (cell_in (w.states q) i) e).led) is;
    apart = λ k ne. ap (λ (s : State). record_in s i) (c.apart k ne);
    before = c.before;
    only = λ s there. elim (c.only s there) [ inl old ↦ old | inr new ↦ absurd (subst (λ (x : Change). In s (sent_from q x.out)) is new) ];
    sound = c.sound;
  }

  -- The leader begins a phase.
  record Begun (w w' : World) (y : Record) (l : LedInstance) (m : Message) : Type 0 where
    mine : recd w' q ≡ y
    led : get (w'.states q).leads i ≡ Some l
    apart : (k : ℕ) → k ≢ q → recd w' k ≡ recd w k
    before : (s : Sent) → In s w.sent → In s w'.sent
    new : (x : ℕ) → x < size f → x ≢ q → In (down x m) w'.sent
    only : (s : Sent) → In s w'.sent → In s w.sent ⊎ ((x : ℕ) × (x ≢ q) × (down x m ≡ s))
    sound : WorldSound f w'

  abbrev begins : Record → LedInstance → Message → Change
  begins y l m = record { entry = Some y; led = Some (Some l); reported = None; out = to_those (is_other q) (size f) m }

  begun_by : (w w' : World) (y : Record) (l : LedInstance) (m : Message) (ch : Change) → Change0 w w' q ch → ch ≡ begins y l m → Begun w w' y l m
  begun_by w w' y l m ch c is = record {
    mine = ap (record_of i) c.here ∙ ap (λ e. record_of i (applied (cell_in (w.states q) i) e)) is;
    led = ap (λ (x : Cell). x.led) c.here ∙ ap (λ e. (applied (cell_in (w.states q) i) e).led) is;
    apart = λ k ne. ap (λ (s : State). record_in s i) (c.apart k ne);
    before = c.before;
    new = λ x lt ne. c.new _ (subst (λ (e : Change). In (down x m) (sent_from q e.out)) (sym is) (others_there q x f m lt ne));
    only = λ s there. elim (c.only s there) [
      | inl old ↦ inl old
      | inr new ↦ inr (those_only q (size f) m s (subst (λ (e : Change). In s (sent_from q e.out)) is new))
    ];
    sound = c.sound;
  }

  base_kept : (k : ℕ) (done : List Sent) (w w' : World) (l : LedInstance) (s : Sent) → Kept w w' l → In s w.sent → Base f live q i b k done w → Base f live q i b k (s ∷ done) w'
  base_kept k done w w' l s c there g = record {
    sound = c.sound;
    low = λ x lt lx ne. subst (λ (r : Record). r.promised ≤ b) (sym (c.apart x ne)) (g.low x lt lx ne);
    sent = λ t h. g.sent t (c.only t h);
    heard = λ t h. elim h [ inl e ↦ c.before t (subst (λ u. In u w.sent) e there) | inr old ↦ c.before t (g.heard t old) ];
  }

  base_begun : (k j : ℕ) (done : List Sent) (w w' : World) (y : Record) (l : LedInstance) (m : Message) (s : Sent) → k ≤ j → Begun w w' y l m → ((x : ℕ) → x ≢ q → Said f live q i b j (down x m)) → In s w.sent → Base f live q i b k done w → Base f live q i b j (s ∷ done) w'
  base_begun k j done w w' y l m s le c said there g = record {
    sound = c.sound;
    low = λ x lt lx ne. subst (λ (r : Record). r.promised ≤ b) (sym (c.apart x ne)) (g.low x lt lx ne);
    sent = λ t h. elim (c.only t h) [ inl old ↦ said_later f live q i b k j t le (g.sent t old) | inr n ↦ subst (λ u. Said f live q i b j u) n.2 (said n.0 n.1) ];
    heard = λ t h. elim h [ inl e ↦ c.before t (subst (λ u. In u w.sent) e there) | inr old ↦ c.before t (g.heard t old) ];
  }

  -- Phase 0: an answer to Prepare.

  module _ (done : List Sent) (w w' : World) (x : ℕ) (v : Option Vote) (ne : x ≢ q) (g : Preparing0 f live q i b done w) (there : In (up x (PrepareOk i b v)) w.sent) (fresh : answer g.answers x ≡ None) where
    abbrev s0 : Sent
    s0 = up x (PrepareOk i b v)

    abbrev more : Answers (Option Vote)
    more = with_answer g.answers x v

    kept_more : (k : ℕ) (u : Option Vote) → answer more k ≡ Some u → k ≢ q → In (up k (PrepareOk i b u)) w.sent
    kept_more k u e other = elim (answer_back g.answers x v k u e) [
      | inl old ↦ g.kept k u old other
      | inr t ↦ subst (λ z. In (up k (PrepareOk i b z)) w.sent) t.1 (subst (λ j. In (up j (PrepareOk i b v)) w.sent) (sym t.0) there)
    ]

    counted_more : (k : ℕ) (u : Option Vote) → In (up k (PrepareOk i b u)) (s0 ∷ done) → is_some (answer more k) ≡ true
    counted_more k u h = elim (cases_eq x k) [
      | inl is ↦ subst (λ j. is_some (answer more j) ≡ true) is (ap is_some (answer_here g.answers x v))
      | inr other ↦ ap is_some (answer_there g.answers x v k other) ∙ (elim h [ inl e ↦ absurd (other (ap (λ (z : Sent). z.from) e)) | inr old ↦ g.counted k u old ])
    ]

    preparing_more : answered_all f more ≤ f → Kept w w' (Preparing b more) → Preparing0 f live q i b (s0 ∷ done) w'
    preparing_more low c = record {
      base = base_kept 0 done w w' (Preparing b more) s0 c there g.base;
      vote = g.vote;
      answers = more;
      mine = c.mine ∙ g.mine;
      unended = g.unended;
      led = c.led;
      few = low;
      own = ap is_some (answer_there g.answers x v q ne) ∙ g.own;
      asked = λ k lt other. c.before _ (g.asked k lt other);
      answered = λ k lt l other at. (let t = g.answered k lt l other (ap (λ (r : Record). r.promised) (sym (c.apart k other)) ∙ at) in (t.0, c.before _ t.1));
      reported = λ k u h. (let old = c.only _ h in subst (λ r. PromisedReport f live q i b u k r) (sym (c.apart k (said_apart f live q i b 0 (up k (PrepareOk i b u)) ((g.base).sent _ old)))) (g.reported k u old));
      kept = λ k u e other. c.before _ (kept_more k u e other);
      promised = λ k h. elim h [ inl e ↦ absurd (let t : PrepareOk i b v ≡ Prepare i b = ap (λ (z : Sent). z.message) e in cc) | inr old ↦ ap (λ (r : Record). r.promised) (c.apart k (λ z. said_apart f live q i b 0 (down k (Prepare i b)) ((g.base).sent _ ((g.base).heard _ old)) (sym z))) ∙ g.promised k old ];
      counted = counted_more;
    }

    -- The choice: those that answered can vote, where none of them has committed.

    abbrev chooser : ℕ → Bool
    chooser k = is_other q k && is_some (answer more k)

    many_chosen : f + 1 ≤ answered_all f more → f ≤ count (size f) chooser
    many_chosen enough =
        let a : answered_all f more ≤ count (size f) (λ r. is_some (answer more r) && not (eqb r q)) + 1 = count_without (size f) (λ r. is_some (answer more r)) q in
        let c : count (size f) (λ r. is_some (answer more r) && not (eqb r q)) ≤ count (size f) chooser =
        count_le (size f) _ chooser (λ r lt e. let t = and_parts (is_some (answer more r)) (not (eqb r q)) e in and_from (is_other q r) (is_some (answer more r)) t.1 t.0) in
        omega arith

    abbrev NobodyEnded : Type 0
    NobodyEnded = (r : ℕ) → r < size f → votes did_commit (answer more r) ≡ false

    record Chosen (k : ℕ) : Type 0 where
      is_live : live k ≡ true
      other : k ≢ q
      at : (recd w k).promised ≡ b
      undone : is_done_at b (recd w k).vote ≡ false

    chosen_can : NobodyEnded → (k : ℕ) → k < size f → chooser k ≡ true → Chosen k
    chosen_can nobody k lt e =
        let t = and_parts (is_other q k) (is_some (answer more k)) e in
        let other : k ≢ q = λ is. absurd (false≢true (sym (not-true (eqb k q) t.0) ∙ eq-eqb k q is)) in
        let u = some_is (answer more k) t.1 in
        let reported = g.reported k u.0 (kept_more k u.0 u.1 other) in
        let known : answer more k ≡ Some (recd w k).vote = u.1 ∙ ap (λ z. Some z) (sym reported.vote) in
        let below : voted_ballot i (recd w k).vote < b = subst (λ z. voted_ballot i z < b) (sym reported.vote) reported.below in
        record { is_live = reported.is_live; other = other; at = reported.at; undone = not_done i b (recd w k).vote (vote_open (answer more k) (recd w k).vote (nobody k lt) known) below }

    preparing_proposes : NobodyEnded → f + 1 ≤ answered_all f more → (d : Decree) → Begun w w' (voted b PreAccepted d) (Proposing b q []) (PreAccept i b d) → Proposing1 f live q i b (s0 ∷ done) w'
    preparing_proposes nobody enough d c = record {
      base = base_begun 0 1 done w w' _ _ (PreAccept i b d) s0 (omega arith) c (λ k other. pre_accept k d other (omega arith) refl) there g.base;
      decree = d;
      answers = [];
      mine = c.mine;
      led = c.led;
      few = (let z = no_others Attrs f q in omega arith);
      asked = λ k lt other. c.new k lt other;
      chosen = chooser;
      many = many_chosen enough;
      can = λ k lt e. (let t = chosen_can nobody k lt e in record {
        is_live = t.is_live;
        other = t.other;
        at = ap (λ (r : Record). r.promised) (c.apart k t.other) ∙ t.at;
        vote = inl (ap (λ (r : Record). is_done_at b r.vote) (c.apart k t.other) ∙ t.undone);
      });
      answered = λ k u lt e h. absurd (elim h [
        | inl is ↦ (let t : PrepareOk i b v ≡ PreAccept i b u = ap (λ (z : Sent). z.message) is in cc)
        | inr old ↦ (let z = said_pre_accept f live q i b 0 k u ((g.base).sent _ ((g.base).heard _ old)) in omega arith)
      ]);
      counted = λ k a h. absurd (elim h [
        | inl is ↦ (let t : PrepareOk i b v ≡ PreAcceptOk i b a = ap (λ (z : Sent). z.message) is in cc)
        | inr old ↦ (let z = said_pre_accept_ok f live q i b 0 k a ((g.base).sent _ ((g.base).heard _ old)) in omega arith)
      ]);
    }

    preparing_accepts : NobodyEnded → f + 1 ≤ answered_all f more → (d : Decree) → Begun w w' (voted b Accepted d) (Accepting b []) (Accept i b d) → Accepting2 f live q i b (s0 ∷ done) w'
    preparing_accepts nobody enough d c = record {
      base = base_begun 0 2 done w w' _ _ (Accept i b d) s0 (omega arith) c (λ k other. accept k d other (omega arith) refl) there g.base;
      decree = d;
      answers = [];
      mine = c.mine;
      led = c.led;
      few = (let z = no_others (Unit {0}) f q in omega arith);
      asked = λ k lt other. c.new k lt other;
      chosen = chooser;
      many = many_chosen enough;
      can = λ k lt e. (let t = chosen_can nobody k lt e in record {
        is_live = t.is_live;
        other = t.other;
        at = ap (λ (r : Record). r.promised) (c.apart k t.other) ∙ t.at;
        vote = inl (ap (λ (r : Record). is_settled_at b r.vote) (c.apart k t.other) ∙ done_settled b (recd w k).vote t.undone);
      });
      answered = λ k u lt e h. absurd (elim h [
        | inl is ↦ (let t : PrepareOk i b v ≡ Accept i b u = ap (λ (z : Sent). z.message) is in cc)
        | inr old ↦ (let z = said_accept f live q i b 0 k u ((g.base).sent _ ((g.base).heard _ old)) in omega arith)
      ]);
      counted = λ k h. absurd (elim h [
        | inl is ↦ (let t : PrepareOk i b v ≡ AcceptOk i b = ap (λ (z : Sent). z.message) is in cc)
        | inr old ↦ (let z = said_accept_ok f live q i b 0 k ((g.base).sent _ ((g.base).heard _ old)) in omega arith)
      ]);
    }

  commits_by : (w w' : World) (d : Decree) (ch : Change) → Change0 w w' q ch → ch ≡ commit_phase f i q d (recd w q) → Ended f live q i b w'
  commits_by w w' d ch c is = (d, ap (λ x. committed_decree (record_of i x).vote) c.here ∙ ap (λ e. committed_decree (record_of i (applied (cell_in (w.states q) i) e)).vote) is)

  -- a message is handled at its receiver, by this change
  abbrev Handling : (World → Type 0) → World → World → List Sent → Sent → Type 0
  Handling G w w' done s = G w → In s w.sent → s.to < size f → live s.to ≡ true → (ch : Change) → handled f s.to s.from (w.states s.to) s.message ≡ Ok ch → Change0 w w' s.to ch → Opened (s ∷ done) w'

  le_cases : (a c : ℕ) → a ≤ c → (a ≡ c) ⊎ (a < c)
  le_cases a c h = grind arith

  ok_is : (o : Outcome) (x ch : Change) → o ≡ Ok x → o ≡ Ok ch → ch ≡ x
  ok_is o x ch e h = cc

  preparing_handles_prepare : (done : List Sent) (w w' : World) (x : ℕ) → x ≢ q → Handling (Preparing0 f live q i b done) w w' done (down x (Prepare i b))
  preparing_handles_prepare done w w' x ne g there lt l ch h c =
      let is : ch ≡ on_prepare i q b (recd w x) = ok_is _ (on_prepare i q b (recd w x)) ch refl h in
      elim (le_cases (recd w x).promised b ((g.base).low x lt l ne)) [
        | inl at ↦ prepares (preparing_same f live q i b done w w' (down x (Prepare i b)) (same_by f live q i b w w' x ch c (is ∙ prepare_idle i q b (recd w x) at)) there g
            (λ k e. subst (λ j. (recd w j).promised ≡ b) (ap (λ (z : Sent). z.to) e) at) (λ k u e. absurd (let t : Prepare i b ≡ PrepareOk i b u = ap (λ (z : Sent). z.message) e in cc)))
        | inr less ↦ (
            let o = (record_sound (size f) few (w.states x) (((g.base).sound).states x) i lead).order in
            prepares (preparing_reported f live q i b done w w' x ne l less (omega arith) (reported_by f live q i b w w' x _ (PrepareOk i b (recd w x).vote) ch c (is ∙ prepare_answered i q b (recd w x) less)) there g))
      ]

  module _ (done : List Sent) (w w' : World) (x : ℕ) (v : Option Vote) (ne : x ≢ q) (g : Preparing0 f live q i b done w) (there : In (up x (PrepareOk i b v)) w.sent) (ch : Change) (h : handled f q x (w.states q) (PrepareOk i b v) ≡ Ok ch) (c : Change0 w w' q ch) where
    abbrev own : Command → Attrs
    own = interference (w.states q).records i

    abbrev lead_q : Option LedInstance
    lead_q = get (w.states q).leads i

    prep_at : (recd w q).promised ≡ b
    prep_at = ap (λ (r : Record). r.promised) g.mine

    prep_open : is_committed (recd w q).vote ≡ false
    prep_open = ap (λ (r : Record). is_committed r.vote) g.mine ∙ g.unended

    abbrev all : Answers (Option Vote)
    all = with_answer g.answers x v

    prep_chose : (fresh : answer g.answers x ≡ None) → f + 1 ≤ answered_all f all → ((r : ℕ) → r < size f → votes did_commit (answer all r) ≡ false) → Chose f i q b (recd w q) ch → Opened (up x (PrepareOk i b v) ∷ done) w'
    prep_chose fresh enough nobody (chose_commit d is) = ended (commits_by w w' d ch c is)
    prep_chose fresh enough nobody (chose_accept d is) = accepts (preparing_accepts done w w' x v ne g there fresh nobody enough d (begun_by w w' (voted b Accepted d) (Accepting b []) (Accept i b d) ch c is))
    prep_chose fresh enough nobody (chose_propose d is) = proposes (preparing_proposes done w w' x v ne g there fresh nobody enough d (begun_by w w' (voted b PreAccepted d) (Proposing b q []) (PreAccept i b d) ch c is))

    prep_counted : (fresh : answer g.answers x ≡ None) (t : Bool) → leb (f + 1) (answered_all f all) ≡ t → Opened (up x (PrepareOk i b v) ∷ done) w'
    prep_counted fresh false e =
        let is : ch ≡ kept (Preparing b all) = ok_is _ (kept (Preparing b all)) ch (prepare_waits f i q x b v own (recd w q) lead_q g.answers g.led fresh prep_at prep_open e) h in
        let low = leb-false (f + 1) (answered_all f all) e in
        prepares (preparing_more done w w' x v ne g there fresh (omega arith) (kept_by w w' (Preparing b all) ch c is))
    prep_counted fresh true e =
        let enough = leb-true (f + 1) (answered_all f all) e in
        let did : act_on f i q b own (recd w q) (choose f (leader_of i) (λ k. answer all k)) ≡ Ok ch = sym (prepare_chooses f i q x b v own (recd w q) lead_q g.answers g.led fresh prep_at prep_open e) ∙ h in
        elim (chooses f (leader_of i) (λ k. answer all k)) [
          | inl chosen ↦ ended (commits_by w w' chosen.0 ch c (ok_is _ (commit_phase f i q chosen.0 (recd w q)) ch (ap (act_on f i q b own (recd w q)) chosen.1) did))
          | inr nobody ↦ prep_chose fresh enough nobody (chose f i q b own (recd w q) ch (choose f (leader_of i) (λ k. answer all k)) did)
        ]

    prep_answer : (o : Option (Option Vote)) → answer g.answers x ≡ o → Opened (up x (PrepareOk i b v) ∷ done) w'
    prep_answer (Some u) e =
        let is : ch ≡ nothing = ok_is _ nothing ch (prepare_known f i q x b v u own (recd w q) lead_q g.answers g.led e) h in
        prepares (preparing_same f live q i b done w w' (up x (PrepareOk i b v)) (same_by f live q i b w w' q ch c is) there g
        (λ k z. absurd (let t : PrepareOk i b v ≡ Prepare i b = ap (λ (y : Sent). y.message) z in cc))
        (λ k u' z. subst (λ j. is_some (answer g.answers j) ≡ true) (ap (λ (y : Sent). y.from) z) (ap is_some e)))
    prep_answer None e = prep_counted e (leb (f + 1) (answered_all f all)) refl

  pub preparing_step : (done : List Sent) (w w' : World) (s : Sent) → Handling (Preparing0 f live q i b done) w w' done s
  preparing_step done w w' s g there = elim ((g.base).sent s there) [
    | prepare x ne e ↦ subst (λ t. Handling (Preparing0 f live q i b done) w w' done t) e (preparing_handles_prepare done w w' x ne) g there
    | prepare_ok x v ne l e ↦ subst (λ t. Handling (Preparing0 f live q i b done) w w' done t) e (λ g' there' lt l' ch h c. prep_answer done w w' x v ne g' there' ch h c (answer g'.answers x) refl) g there
    | pre_accept x d ne k e ↦ absurd (omega arith)
    | pre_accept_ok x a ne k e ↦ absurd (omega arith)
    | accept x d ne k e ↦ absurd (omega arith)
    | accept_ok x ne k e ↦ absurd (omega arith)
  ]

  -- Phase 1.

  module _ (done : List Sent) (w w' : World) (x : ℕ) (a : Attrs) (ne : x ≢ q) (g : Proposing1 f live q i b done w) (there : In (up x (PreAcceptOk i b a)) w.sent) where
    abbrev s1 : Sent
    s1 = up x (PreAcceptOk i b a)

    abbrev more1 : Answers Attrs
    more1 = with_answer g.answers x a

    counted_more1 : (k : ℕ) (u : Attrs) → In (up k (PreAcceptOk i b u)) (s1 ∷ done) → is_some (answer more1 k) ≡ true
    counted_more1 k u h = elim (cases_eq x k) [
      | inl is ↦ subst (λ j. is_some (answer more1 j) ≡ true) is (ap is_some (answer_here g.answers x a))
      | inr other ↦ ap is_some (answer_there g.answers x a k other) ∙ (elim h [ inl e ↦ absurd (other (ap (λ (z : Sent). z.from) e)) | inr old ↦ g.counted k u old ])
    ]

    proposing_more : others f q more1 < f → Kept w w' (Proposing b q more1) → Proposing1 f live q i b (s1 ∷ done) w'
    proposing_more low c = record {
      base = base_kept 1 done w w' (Proposing b q more1) s1 c there g.base;
      decree = g.decree;
      answers = more1;
      mine = c.mine ∙ g.mine;
      led = c.led;
      few = low;
      asked = λ k lt other. c.before _ (g.asked k lt other);
      chosen = g.chosen;
      many = g.many;
      can = λ k lt e. (let old = g.can k lt e in record {
        is_live = old.is_live;
        other = old.other;
        at = ap (λ (r : Record). r.promised) (c.apart k old.other) ∙ old.at;
        vote = subst (λ (r : Record). (is_done_at b r.vote ≡ false) ⊎ ((is_settled_at b r.vote ≡ false) × ((u : Attrs) × In (up k (PreAcceptOk i b u)) w'.sent))) (sym (c.apart k old.other))
            (elim old.vote [ inl u ↦ inl u | inr t ↦ inr (t.0, ((t.1).0, c.before _ (t.1).1)) ]);
      });
      answered = λ k d lt e h. elim h [
        | inl is ↦ absurd (let t : PreAcceptOk i b a ≡ PreAccept i b d = ap (λ (z : Sent). z.message) is in cc)
        | inr old ↦ (let t = g.answered k d lt e old in (t.0, c.before _ t.1))
      ];
      counted = counted_more1;
    }

    proposing_accepts : (d : Decree) → Begun w w' (voted b Accepted d) (Accepting b []) (Accept i b d) → Accepting2 f live q i b (s1 ∷ done) w'
    proposing_accepts d c = record {
      base = base_begun 1 2 done w w' _ _ (Accept i b d) s1 (omega arith) c (λ k other. accept k d other (omega arith) refl) there g.base;
      decree = d;
      answers = [];
      mine = c.mine;
      led = c.led;
      few = (let z = no_others (Unit {0}) f q in omega arith);
      asked = λ k lt other. c.new k lt other;
      chosen = g.chosen;
      many = g.many;
      can = λ k lt e. (let old = g.can k lt e in record {
        is_live = old.is_live;
        other = old.other;
        at = ap (λ (r : Record). r.promised) (c.apart k old.other) ∙ old.at;
        vote = inl (ap (λ (r : Record). is_settled_at b r.vote) (c.apart k old.other) ∙ (elim old.vote [ inl u ↦ done_settled b (recd w k).vote u | inr t ↦ t.0 ]));
      });
      answered = λ k u lt e h. absurd (elim h [
        | inl is ↦ (let t : PreAcceptOk i b a ≡ Accept i b u = ap (λ (z : Sent). z.message) is in cc)
        | inr old ↦ (let z = said_accept f live q i b 1 k u ((g.base).sent _ ((g.base).heard _ old)) in omega arith)
      ]);
      counted = λ k h. absurd (elim h [
        | inl is ↦ (let t : PreAcceptOk i b a ≡ AcceptOk i b = ap (λ (z : Sent). z.message) is in cc)
        | inr old ↦ (let z = said_accept_ok f live q i b 1 k ((g.base).sent _ ((g.base).heard _ old)) in omega arith)
      ]);
    }

    module _ (ch : Change) (h : handled f q x (w.states q) (PreAcceptOk i b a) ≡ Ok ch) (c : Change0 w w' q ch) where
      prop_at : (recd w q).promised ≡ b
      prop_at = ap (λ (r : Record). r.promised) g.mine

      prop_open : is_committed (recd w q).vote ≡ false
      prop_open = ap (λ (r : Record). is_committed r.vote) g.mine

      prop_counted : (fresh : answer g.answers x ≡ None) (t : Bool) → leb f (others f q more1) ≡ t → Opened (s1 ∷ done) w'
      prop_counted fresh false e =
          let is : ch ≡ kept (Proposing b q more1) = ok_is _ _ ch (ap (λ (y : Change). Ok y) (pre_accept_waits f i q x b q a (recd w q) (get (w.states q).leads i) g.answers g.led fresh prop_at prop_open above e)) h in
          proposes (proposing_more (leb-false f (others f q more1) e) (kept_by w w' (Proposing b q more1) ch c is))
      prop_counted fresh true e =
          let d : Decree = joined f more1 g.decree in
          let is : ch ≡ accept_phase f i q b d = ok_is _ _ ch (ap (λ (y : Change). Ok y) (pre_accept_accepts f i q x b q a (recd w q) (get (w.states q).leads i) g.answers g.led fresh prop_at prop_open above e (record { status = PreAccepted; ballot = b; decree = g.decree }) (ap (λ (r : Record). r.vote) g.mine))) h in
          accepts (proposing_accepts d (begun_by w w' (voted b Accepted d) (Accepting b []) (Accept i b d) ch c is))

      prop_answer : (o : Option Attrs) → answer g.answers x ≡ o → Opened (s1 ∷ done) w'
      prop_answer (Some u) e =
          let is : ch ≡ nothing = ok_is _ nothing ch (ap (λ (y : Change). Ok y) (pre_accept_known f i q x b q a u (recd w q) (get (w.states q).leads i) g.answers g.led e)) h in
          proposes (proposing_same f live q i b done w w' s1 (same_by f live q i b w w' q ch c is) there g
          (λ k d lt l z. absurd (let t : PreAcceptOk i b a ≡ PreAccept i b d = ap (λ (y : Sent). y.message) z in cc))
          (λ k u' z. subst (λ j. is_some (answer g.answers j) ≡ true) (ap (λ (y : Sent). y.from) z) (ap is_some e)))
      prop_answer None e = prop_counted e (leb f (others f q more1)) refl

  proposing_handles_prepare : (done : List Sent) (w w' : World) (x : ℕ) → x ≢ q → Handling (Proposing1 f live q i b done) w w' done (down x (Prepare i b))
  proposing_handles_prepare done w w' x ne g there lt l ch h c =
      let is : ch ≡ on_prepare i q b (recd w x) = ok_is _ (on_prepare i q b (recd w x)) ch refl h in
      elim (le_cases (recd w x).promised b ((g.base).low x lt l ne)) [
        | inl at ↦ proposes (proposing_same f live q i b done w w' (down x (Prepare i b)) (same_by f live q i b w w' x ch c (is ∙ prepare_idle i q b (recd w x) at)) there g
            (λ k d lt' e z. absurd (let t : Prepare i b ≡ PreAccept i b d = ap (λ (y : Sent). y.message) z in cc)) (λ k u z. absurd (let t : Prepare i b ≡ PreAcceptOk i b u = ap (λ (y : Sent). y.message) z in cc)))
        | inr less ↦ proposes (proposing_reported f live q i b done w w' x (record { promised = b; vote = (recd w x).vote }) (PrepareOk i b (recd w x).vote) (down x (Prepare i b)) (reported_by f live q i b w w' x _ (PrepareOk i b (recd w x).vote) ch c (is ∙ prepare_answered i q b (recd w x) less)) ne (omega arith)
            (prepare_ok x (recd w x).vote ne l refl) there g (λ lt' e. absurd (let at = (g.can x lt' e).at in omega arith))
            (λ k d lt' e z. absurd (let t : Prepare i b ≡ PreAccept i b d = ap (λ (y : Sent). y.message) z in cc)) (λ k u z. let t : Prepare i b ≡ PreAcceptOk i b u = ap (λ (y : Sent). y.message) z in cc))
      ]

  proposing_handles_prepare_ok : (done : List Sent) (w w' : World) (x : ℕ) (v : Option Vote) → Handling (Proposing1 f live q i b done) w w' done (up x (PrepareOk i b v))
  proposing_handles_prepare_ok done w w' x v g there lt l ch h c =
      let is : ch ≡ nothing = ok_is _ nothing ch (ap (λ o. on_prepare_ok f i q x b v (interference (w.states q).records i) (recd w q) o) g.led) h in
      proposes (proposing_same f live q i b done w w' (up x (PrepareOk i b v)) (same_by f live q i b w w' q ch c is) there g
      (λ k d lt' e z. absurd (let t : PrepareOk i b v ≡ PreAccept i b d = ap (λ (y : Sent). y.message) z in cc)) (λ k u z. absurd (let t : PrepareOk i b v ≡ PreAcceptOk i b u = ap (λ (y : Sent). y.message) z in cc)))

  proposing_handles_pre_accept : (done : List Sent) (w w' : World) (x : ℕ) (d : Decree) → x ≢ q → Handling (Proposing1 f live q i b done) w w' done (down x (PreAccept i b d))
  proposing_handles_pre_accept done w w' x d ne g there lt l ch h c =
      elim (pre_accept_cases i q b d (interference (w.states x).records i d.command) (recd w x) ch ((g.base).low x lt l ne) h) [
        | inl t ↦ proposes (proposing_same f live q i b done w w' (down x (PreAccept i b d)) (same_by f live q i b w w' x ch c t.1) there g
            (λ k u lt' e z. (let at : x ≡ k = ap (λ (y : Sent). y.to) z in let did : is_done_at b (recd w k).vote ≡ true = subst (λ j. is_done_at b (recd w j).vote ≡ true) at t.0 in
            elim (g.can k lt' e).vote [ inl undone ↦ absurd (false≢true (sym undone ∙ did)) | inr v ↦ v.1 ]))
            (λ k u z. absurd (let t : PreAccept i b d ≡ PreAcceptOk i b u = ap (λ (y : Sent). y.message) z in cc)))
        | inr t ↦ (
            let m = PreAcceptOk i b (join d.attrs (interference (w.states x).records i d.command)) in
            let reported = reported_by f live q i b w w' x (voted b PreAccepted (with_attrs d (join d.attrs (interference (w.states x).records i d.command)))) m ch c t.1 in
            proposes (proposing_reported f live q i b done w w' x _ m (down x (PreAccept i b d)) reported ne (omega arith) (pre_accept_ok x _ ne (omega arith) refl) there g
            (λ lt' e. record { is_live = l; other = ne; at = ap (λ (r : Record). r.promised) reported.now; vote = inr (ap (λ (r : Record). is_settled_at b r.vote) reported.now, (join d.attrs (interference (w.states x).records i d.command), reported.new)) })
            (λ k u lt' e z. subst (λ j. (a : Attrs) × In (up j (PreAcceptOk i b a)) w'.sent) (ap (λ (y : Sent). y.to) z) (join d.attrs (interference (w.states x).records i d.command), reported.new))
            (λ k u z. let t : PreAccept i b d ≡ PreAcceptOk i b u = ap (λ (y : Sent). y.message) z in cc)))
      ]

  pub proposing_step : (done : List Sent) (w w' : World) (s : Sent) → Handling (Proposing1 f live q i b done) w w' done s
  proposing_step done w w' s g there = elim ((g.base).sent s there) [
    | prepare x ne e ↦ subst (λ t. Handling (Proposing1 f live q i b done) w w' done t) e (proposing_handles_prepare done w w' x ne) g there
    | prepare_ok x v ne l e ↦ subst (λ t. Handling (Proposing1 f live q i b done) w w' done t) e (proposing_handles_prepare_ok done w w' x v) g there
    | pre_accept x d ne k e ↦ subst (λ t. Handling (Proposing1 f live q i b done) w w' done t) e (proposing_handles_pre_accept done w w' x d ne) g there
    | pre_accept_ok x a ne k e ↦ subst (λ t. Handling (Proposing1 f live q i b done) w w' done t) e (λ g' there' lt l' ch h c. prop_answer done w w' x a ne g' there' ch h c (answer g'.answers x) refl) g there
    | accept x d ne k e ↦ absurd (omega arith)
    | accept_ok x ne k e ↦ absurd (omega arith)
  ]

  -- Phase 2.

  module _ (done : List Sent) (w w' : World) (x : ℕ) (ne : x ≢ q) (g : Accepting2 f live q i b done w) (there : In (up x (AcceptOk i b)) w.sent) where
    abbrev s2 : Sent
    s2 = up x (AcceptOk i b)

    abbrev more2 : Answers (Unit {0})
    more2 = with_answer g.answers x tt

    counted_more2 : (k : ℕ) → In (up k (AcceptOk i b)) (s2 ∷ done) → is_some (answer more2 k) ≡ true
    counted_more2 k h = elim (cases_eq x k) [
      | inl is ↦ subst (λ j. is_some (answer more2 j) ≡ true) is (ap is_some (answer_here g.answers x tt))
      | inr other ↦ ap is_some (answer_there g.answers x tt k other) ∙ (elim h [ inl e ↦ absurd (other (ap (λ (z : Sent). z.from) e)) | inr old ↦ g.counted k old ])
    ]

    accepting_more : others f q more2 < f → Kept w w' (Accepting b more2) → Accepting2 f live q i b (s2 ∷ done) w'
    accepting_more low c = record {
      base = base_kept 2 done w w' (Accepting b more2) s2 c there g.base;
      decree = g.decree;
      answers = more2;
      mine = c.mine ∙ g.mine;
      led = c.led;
      few = low;
      asked = λ k lt other. c.before _ (g.asked k lt other);
      chosen = g.chosen;
      many = g.many;
      can = λ k lt e. (let old = g.can k lt e in record {
        is_live = old.is_live;
        other = old.other;
        at = ap (λ (r : Record). r.promised) (c.apart k old.other) ∙ old.at;
        vote = subst (λ (r : Record). (is_settled_at b r.vote ≡ false) ⊎ In (up k (AcceptOk i b)) w'.sent) (sym (c.apart k old.other)) (elim old.vote [ inl u ↦ inl u | inr t ↦ inr (c.before _ t) ]);
      });
      answered = λ k d lt e h. elim h [
        | inl is ↦ absurd (let t : AcceptOk i b ≡ Accept i b d = ap (λ (z : Sent). z.message) is in cc)
        | inr old ↦ c.before _ (g.answered k d lt e old)
      ];
      counted = counted_more2;
    }

    module _ (ch : Change) (h : handled f q x (w.states q) (AcceptOk i b) ≡ Ok ch) (c : Change0 w w' q ch) where
      acc_at : (recd w q).promised ≡ b
      acc_at = ap (λ (r : Record). r.promised) g.mine

      acc_open : is_committed (recd w q).vote ≡ false
      acc_open = ap (λ (r : Record). is_committed r.vote) g.mine

      acc_counted : (fresh : answer g.answers x ≡ None) (t : Bool) → leb f (others f q more2) ≡ t → Opened (s2 ∷ done) w'
      acc_counted fresh false e =
          let is : ch ≡ kept (Accepting b more2) = ok_is _ _ ch (ap (λ (y : Change). Ok y) (accept_waits f i q x b (recd w q) (get (w.states q).leads i) g.answers g.led fresh acc_at acc_open e)) h in
          accepts (accepting_more (leb-false f (others f q more2) e) (kept_by w w' (Accepting b more2) ch c is))
      acc_counted fresh true e =
          let is : ch ≡ commit_phase f i q g.decree (recd w q) = ok_is _ _ ch (ap (λ (y : Change). Ok y) (accept_commits f i q x b (recd w q) (get (w.states q).leads i) g.answers g.led fresh acc_at acc_open e (record { status = Accepted; ballot = b; decree = g.decree }) (ap (λ (r : Record). r.vote) g.mine))) h in
          ended (commits_by w w' g.decree ch c is)

      acc_answer : (o : Option (Unit {0})) → answer g.answers x ≡ o → Opened (s2 ∷ done) w'
      acc_answer (Some u) e =
          let is : ch ≡ nothing = ok_is _ nothing ch (ap (λ (y : Change). Ok y) (accept_known f i q x b u (recd w q) (get (w.states q).leads i) g.answers g.led e)) h in
          accepts (accepting_same f live q i b done w w' s2 (same_by f live q i b w w' q ch c is) there g
          (λ k d lt l z. absurd (let t : AcceptOk i b ≡ Accept i b d = ap (λ (y : Sent). y.message) z in cc))
          (λ k z. subst (λ j. is_some (answer g.answers j) ≡ true) (ap (λ (y : Sent). y.from) z) (ap is_some e)))
      acc_answer None e = acc_counted e (leb f (others f q more2)) refl

  accepting_handles_prepare : (done : List Sent) (w w' : World) (x : ℕ) → x ≢ q → Handling (Accepting2 f live q i b done) w w' done (down x (Prepare i b))
  accepting_handles_prepare done w w' x ne g there lt l ch h c =
      let is : ch ≡ on_prepare i q b (recd w x) = ok_is _ (on_prepare i q b (recd w x)) ch refl h in
      elim (le_cases (recd w x).promised b ((g.base).low x lt l ne)) [
        | inl at ↦ accepts (accepting_same f live q i b done w w' (down x (Prepare i b)) (same_by f live q i b w w' x ch c (is ∙ prepare_idle i q b (recd w x) at)) there g
            (λ k d lt' e z. absurd (let t : Prepare i b ≡ Accept i b d = ap (λ (y : Sent). y.message) z in cc)) (λ k z. absurd (let t : Prepare i b ≡ AcceptOk i b = ap (λ (y : Sent). y.message) z in cc)))
        | inr less ↦ accepts (accepting_reported f live q i b done w w' x (record { promised = b; vote = (recd w x).vote }) (PrepareOk i b (recd w x).vote) (down x (Prepare i b)) (reported_by f live q i b w w' x _ (PrepareOk i b (recd w x).vote) ch c (is ∙ prepare_answered i q b (recd w x) less)) ne (omega arith)
            (prepare_ok x (recd w x).vote ne l refl) there g (λ lt' e. absurd (let at = (g.can x lt' e).at in omega arith))
            (λ k d lt' e z. absurd (let t : Prepare i b ≡ Accept i b d = ap (λ (y : Sent). y.message) z in cc)) (λ k z. let t : Prepare i b ≡ AcceptOk i b = ap (λ (y : Sent). y.message) z in cc))
      ]

  accepting_handles_prepare_ok : (done : List Sent) (w w' : World) (x : ℕ) (v : Option Vote) → Handling (Accepting2 f live q i b done) w w' done (up x (PrepareOk i b v))
  accepting_handles_prepare_ok done w w' x v g there lt l ch h c =
      let is : ch ≡ nothing = ok_is _ nothing ch (ap (λ o. on_prepare_ok f i q x b v (interference (w.states q).records i) (recd w q) o) g.led) h in
      accepts (accepting_same f live q i b done w w' (up x (PrepareOk i b v)) (same_by f live q i b w w' q ch c is) there g
      (λ k d lt' e z. absurd (let t : PrepareOk i b v ≡ Accept i b d = ap (λ (y : Sent). y.message) z in cc)) (λ k z. absurd (let t : PrepareOk i b v ≡ AcceptOk i b = ap (λ (y : Sent). y.message) z in cc)))

  accepting_handles_pre_accept : (done : List Sent) (w w' : World) (x : ℕ) (d : Decree) → x ≢ q → Handling (Accepting2 f live q i b done) w w' done (down x (PreAccept i b d))
  accepting_handles_pre_accept done w w' x d ne g there lt l ch h c =
      elim (pre_accept_cases i q b d (interference (w.states x).records i d.command) (recd w x) ch ((g.base).low x lt l ne) h) [
        | inl t ↦ accepts (accepting_same f live q i b done w w' (down x (PreAccept i b d)) (same_by f live q i b w w' x ch c t.1) there g
            (λ k u lt' e z. absurd (let t : PreAccept i b d ≡ Accept i b u = ap (λ (y : Sent). y.message) z in cc)) (λ k z. absurd (let t : PreAccept i b d ≡ AcceptOk i b = ap (λ (y : Sent). y.message) z in cc)))
        | inr t ↦ (
            let m = PreAcceptOk i b (join d.attrs (interference (w.states x).records i d.command)) in
            let reported = reported_by f live q i b w w' x (voted b PreAccepted (with_attrs d (join d.attrs (interference (w.states x).records i d.command)))) m ch c t.1 in
            accepts (accepting_reported f live q i b done w w' x _ m (down x (PreAccept i b d)) reported ne (omega arith) (pre_accept_ok x _ ne (omega arith) refl) there g
            (λ lt' e. record { is_live = l; other = ne; at = ap (λ (r : Record). r.promised) reported.now; vote = inl (ap (λ (r : Record). is_settled_at b r.vote) reported.now) })
            (λ k u lt' e z. absurd (let t : PreAccept i b d ≡ Accept i b u = ap (λ (y : Sent). y.message) z in cc)) (λ k z. let t : PreAccept i b d ≡ AcceptOk i b = ap (λ (y : Sent). y.message) z in cc)))
      ]

  accepting_handles_pre_accept_ok : (done : List Sent) (w w' : World) (x : ℕ) (a : Attrs) → Handling (Accepting2 f live q i b done) w w' done (up x (PreAcceptOk i b a))
  accepting_handles_pre_accept_ok done w w' x a g there lt l ch h c =
      let is : ch ≡ nothing = ok_is _ nothing ch (ap (λ o. Ok (on_pre_accept_ok f i q x b a (recd w q) o)) g.led) h in
      accepts (accepting_same f live q i b done w w' (up x (PreAcceptOk i b a)) (same_by f live q i b w w' q ch c is) there g
      (λ k d lt' e z. absurd (let t : PreAcceptOk i b a ≡ Accept i b d = ap (λ (y : Sent). y.message) z in cc)) (λ k z. absurd (let t : PreAcceptOk i b a ≡ AcceptOk i b = ap (λ (y : Sent). y.message) z in cc)))

  accepting_handles_accept : (done : List Sent) (w w' : World) (x : ℕ) (d : Decree) → x ≢ q → Handling (Accepting2 f live q i b done) w w' done (down x (Accept i b d))
  accepting_handles_accept done w w' x d ne g there lt l ch h c =
      elim (accept_cases i q b d (recd w x) ((g.base).low x lt l ne)) [
        | inl t ↦ accepts (accepting_same f live q i b done w w' (down x (Accept i b d)) (same_by f live q i b w w' x ch c (ok_is _ nothing ch (ap (λ (y : Change). Ok y) t.1) h)) there g
            (λ k u lt' e z. (let at : x ≡ k = ap (λ (y : Sent). y.to) z in let did : is_settled_at b (recd w k).vote ≡ true = subst (λ j. is_settled_at b (recd w j).vote ≡ true) at t.0 in
            elim (g.can k lt' e).vote [ inl undone ↦ absurd (false≢true (sym undone ∙ did)) | inr v ↦ v ]))
            (λ k z. absurd (let t : Accept i b d ≡ AcceptOk i b = ap (λ (y : Sent). y.message) z in cc)))
        | inr t ↦ (
            let reported = reported_by f live q i b w w' x (voted b Accepted d) (AcceptOk i b) ch c (ok_is _ (recorded (voted b Accepted d) q (AcceptOk i b)) ch (ap (λ (y : Change). Ok y) t.1) h) in
            accepts (accepting_reported f live q i b done w w' x (voted b Accepted d) (AcceptOk i b) (down x (Accept i b d)) reported ne (omega arith) (accept_ok x ne (omega arith) refl) there g
            (λ lt' e. record { is_live = l; other = ne; at = ap (λ (r : Record). r.promised) reported.now; vote = inr reported.new })
            (λ k u lt' e z. subst (λ j. In (up j (AcceptOk i b)) w'.sent) (ap (λ (y : Sent). y.to) z) reported.new)
            (λ k z. let t : Accept i b d ≡ AcceptOk i b = ap (λ (y : Sent). y.message) z in cc)))
      ]

  pub accepting_step : (done : List Sent) (w w' : World) (s : Sent) → Handling (Accepting2 f live q i b done) w w' done s
  accepting_step done w w' s g there = elim ((g.base).sent s there) [
    | prepare x ne e ↦ subst (λ t. Handling (Accepting2 f live q i b done) w w' done t) e (accepting_handles_prepare done w w' x ne) g there
    | prepare_ok x v ne l e ↦ subst (λ t. Handling (Accepting2 f live q i b done) w w' done t) e (accepting_handles_prepare_ok done w w' x v) g there
    | pre_accept x d ne k e ↦ subst (λ t. Handling (Accepting2 f live q i b done) w w' done t) e (accepting_handles_pre_accept done w w' x d ne) g there
    | pre_accept_ok x a ne k e ↦ subst (λ t. Handling (Accepting2 f live q i b done) w w' done t) e (accepting_handles_pre_accept_ok done w w' x a) g there
    | accept x d ne k e ↦ subst (λ t. Handling (Accepting2 f live q i b done) w w' done t) e (accepting_handles_accept done w w' x d ne) g there
    | accept_ok x ne k e ↦ subst (λ t. Handling (Accepting2 f live q i b done) w w' done t) e (λ g' there' lt l' ch h c. acc_answer done w w' x ne g' there' ch h c (answer g'.answers x) refl) g there
  ]

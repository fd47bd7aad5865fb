-- A round ends its instance in whatever order its messages are handled: what holds of every world on the way, in each of the leader's three phases.
use Rattle.std.proofs.Common.{◌≡◌, ◌≢◌, ℕ, ◌<◌, ◌≤◌, Bool, true, false, Option, Some, is_some, List, ◌∷◌, refl, sym, ap, subst, ◌∙◌, inl, inr, ◌⊎◌, arith}
use Rattle.std.proofs.lemmas.Bool.{cases_eq}
use Rattle.ep_base.specs.Quorums.{size}
use Rattle.ep_base.specs.declared.attrs.Attrs.{Attrs}
use Rattle.ep_base.specs.declared.decree.Decree.{Decree}
use Rattle.ep_base.specs.declared.message.Message.{Message}
use Rattle.ep_base.specs.declared.message.Message.TheVariants.{PreAccept, PreAcceptOk, Accept, AcceptOk, Prepare, PrepareOk}
use Rattle.ep_base.specs.declared.vote.VoteStatus.TheVariants.{PreAccepted, Accepted}
use Rattle.ep_base.specs.declared.vote.Vote.{Vote}
use Rattle.ep_rules.specs.Answers.{Answers, answer}
use Rattle.ep_rules.specs.Cells.{Change, nothing, recorded, voted, voted_ballot, is_committed, is_done_at, is_settled_at, Cell}
use Rattle.ep_rules.specs.Counting.{count}
use Rattle.ep_rules.specs.Maps.{get}
use Rattle.ep_rules.specs.Phases.{others}
use Rattle.ep_rules.specs.Recovery.{answered_all}
use Rattle.ep_rules.specs.States.{State, cell_in, record_in}
use Rattle.ep_rules.specs.Steps.{Sent, sent_from}
use Rattle.ep_rules.specs.Worlds.{World, In, Committed as IsCommitted}
use Rattle.ep_rules.specs.declared.led_instance.LedInstance.TheVariants.{Proposing, Accepting, Preparing}
use Rattle.ep_rules.specs.declared.record.Record.{Record}
use Rattle.ep_rules.proofs.Keeping.{applied, record_of}
use Rattle.ep_laws.proofs.Sound.{WorldSound}

-- f+1 replicas are live, q among them, which recovers i at b.
module _ (f : ℕ) (live : ℕ → Bool) (q i b : ℕ) where
  abbrev pub from_q : ℕ → Message → Sent
  from_q x m = record { from = q; to = x; message = m }

  abbrev pub to_q : ℕ → Message → Sent
  to_q x m = record { from = x; to = q; message = m }

  -- What is said in phase k of the leader: 0 where it prepares, 1 where it proposes, 2 where it has others accept.
  pub data Said (k : ℕ) (s : Sent) : Type 0 where
    prepare : (x : ℕ) → x ≢ q → from_q x (Prepare i b) ≡ s → Said k s
    prepare_ok : (x : ℕ) (v : Option Vote) → x ≢ q → live x ≡ true → to_q x (PrepareOk i b v) ≡ s → Said k s
    pre_accept : (x : ℕ) (d : Decree) → x ≢ q → 1 ≤ k → from_q x (PreAccept i b d) ≡ s → Said k s
    pre_accept_ok : (x : ℕ) (a : Attrs) → x ≢ q → 1 ≤ k → to_q x (PreAcceptOk i b a) ≡ s → Said k s
    accept : (x : ℕ) (d : Decree) → x ≢ q → 2 ≤ k → from_q x (Accept i b d) ≡ s → Said k s
    accept_ok : (x : ℕ) → x ≢ q → 2 ≤ k → to_q x (AcceptOk i b) ≡ s → Said k s

  pub said_later : (k j : ℕ) (s : Sent) → k ≤ j → Said k s → Said j s
  said_later k j s le (prepare x ne e) = prepare x ne e
  said_later k j s le (prepare_ok x v ne l e) = prepare_ok x v ne l e
  said_later k j s le (pre_accept x d ne h e) = pre_accept x d ne (omega arith) e
  said_later k j s le (pre_accept_ok x a ne h e) = pre_accept_ok x a ne (omega arith) e
  said_later k j s le (accept x d ne h e) = accept x d ne (omega arith) e
  said_later k j s le (accept_ok x ne h e) = accept_ok x ne (omega arith) e

  abbrev pub rec : World → ℕ → Record
  rec w x = record_in (w.states x) i

  -- What holds in every phase. done: the messages that were handled.
  pub record Base (k : ℕ) (done : List Sent) (w : World) : Type 0 where
    pub sound : WorldSound f w
    pub low : (x : ℕ) → x < size f → live x ≡ true → x ≢ q → (rec w x).promised ≤ b
    pub sent : (s : Sent) → In s w.sent → Said k s
    pub heard : (s : Sent) → In s done → In s w.sent

  -- x has promised b, and its vote, which is below b, is v
  pub record PromisedReport (v : Option Vote) (x : ℕ) (r : Record) : Type 0 where
    pub is_live : live x ≡ true
    pub at : r.promised ≡ b
    pub vote : r.vote ≡ v
    pub below : voted_ballot i v < b

  pub record Preparing0 (done : List Sent) (w : World) : Type 0 where
    pub base : Base 0 done w
    pub vote : Option Vote
    pub answers : Answers (Option Vote)
    pub mine : rec w q ≡ record { promised = b; vote = vote }
    pub unended : is_committed vote ≡ false
    pub led : get (w.states q).leads i ≡ Some (Preparing b answers)
    pub few : answered_all f answers ≤ f
    pub own : is_some (answer answers q) ≡ true
    pub asked : (x : ℕ) → x < size f → x ≢ q → In (from_q x (Prepare i b)) w.sent
    pub answered : (x : ℕ) → x < size f → live x ≡ true → x ≢ q → (rec w x).promised ≡ b → (v : Option Vote) × In (to_q x (PrepareOk i b v)) w.sent
    pub reported : (x : ℕ) (v : Option Vote) → In (to_q x (PrepareOk i b v)) w.sent → PromisedReport v x (rec w x)
    pub kept : (x : ℕ) (v : Option Vote) → answer answers x ≡ Some v → x ≢ q → In (to_q x (PrepareOk i b v)) w.sent
    pub promised : (x : ℕ) → In (from_q x (Prepare i b)) done → (rec w x).promised ≡ b
    pub counted : (x : ℕ) (v : Option Vote) → In (to_q x (PrepareOk i b v)) done → is_some (answer answers x) ≡ true

  -- one that was chosen by: it has promised b, and can still vote there, or has done so and reported it
  pub record CanVote (w : World) (x : ℕ) : Type 0 where
    pub is_live : live x ≡ true
    pub other : x ≢ q
    pub at : (rec w x).promised ≡ b
    pub vote : (is_done_at b (rec w x).vote ≡ false) ⊎ ((is_settled_at b (rec w x).vote ≡ false) × ((a : Attrs) × In (to_q x (PreAcceptOk i b a)) w.sent))

  pub record Proposing1 (done : List Sent) (w : World) : Type 0 where
    pub base : Base 1 done w
    pub decree : Decree
    pub answers : Answers Attrs
    pub mine : rec w q ≡ voted b PreAccepted decree
    pub led : get (w.states q).leads i ≡ Some (Proposing b q answers)
    pub few : others f q answers < f
    pub asked : (x : ℕ) → x < size f → x ≢ q → In (from_q x (PreAccept i b decree)) w.sent
    pub chosen : ℕ → Bool
    pub many : f ≤ count (size f) chosen
    pub can : (x : ℕ) → x < size f → chosen x ≡ true → CanVote w x
    pub answered : (x : ℕ) (d : Decree) → x < size f → chosen x ≡ true → In (from_q x (PreAccept i b d)) done → (a : Attrs) × In (to_q x (PreAcceptOk i b a)) w.sent
    pub counted : (x : ℕ) (a : Attrs) → In (to_q x (PreAcceptOk i b a)) done → is_some (answer answers x) ≡ true

  pub record CanAccept (w : World) (x : ℕ) : Type 0 where
    pub is_live : live x ≡ true
    pub other : x ≢ q
    pub at : (rec w x).promised ≡ b
    pub vote : (is_settled_at b (rec w x).vote ≡ false) ⊎ In (to_q x (AcceptOk i b)) w.sent

  pub record Accepting2 (done : List Sent) (w : World) : Type 0 where
    pub base : Base 2 done w
    pub decree : Decree
    pub answers : Answers (Unit {0})
    pub mine : rec w q ≡ voted b Accepted decree
    pub led : get (w.states q).leads i ≡ Some (Accepting b answers)
    pub few : others f q answers < f
    pub asked : (x : ℕ) → x < size f → x ≢ q → In (from_q x (Accept i b decree)) w.sent
    pub chosen : ℕ → Bool
    pub many : f ≤ count (size f) chosen
    pub can : (x : ℕ) → x < size f → chosen x ≡ true → CanAccept w x
    pub answered : (x : ℕ) (d : Decree) → x < size f → chosen x ≡ true → In (from_q x (Accept i b d)) done → In (to_q x (AcceptOk i b)) w.sent
    pub counted : (x : ℕ) → In (to_q x (AcceptOk i b)) done → is_some (answer answers x) ≡ true

  abbrev pub Ended : World → Type 0
  Ended w = (d : Decree) × IsCommitted w q i d

  pub data Open (done : List Sent) (w : World) : Type 0 where
    prepares : Preparing0 done w → Open done w
    proposes : Proposing1 done w → Open done w
    accepts : Accepting2 done w → Open done w
    ended : Ended w → Open done w

  -- What an act does, said of instance i.
  pub record Changed (w w' : World) (r : ℕ) (ch : Change) : Type 0 where
    pub here : cell_in (w'.states r) i ≡ applied (cell_in (w.states r) i) ch
    pub apart : (k : ℕ) → k ≢ r → w'.states k ≡ w.states k
    pub before : (s : Sent) → In s w.sent → In s w'.sent
    pub new : (s : Sent) → In s (sent_from r ch.out) → In s w'.sent
    pub only : (s : Sent) → In s w'.sent → In s w.sent ⊎ In s (sent_from r ch.out)
    pub sound : WorldSound f w'

  -- A step that adds no message to those that were sent.
  pub record Same (w w' : World) : Type 0 where
    pub cells : (k : ℕ) → cell_in (w'.states k) i ≡ cell_in (w.states k) i
    pub before : (s : Sent) → In s w.sent → In s w'.sent
    pub only : (s : Sent) → In s w'.sent → In s w.sent
    pub sound : WorldSound f w'

  pub same_by : (w w' : World) (r : ℕ) (ch : Change) → Changed w w' r ch → ch ≡ nothing → Same w w'
  same_by w w' r ch c is = record {
    cells = λ k. elim (cases_eq k r) [
      | inl at ↦ subst (λ j. cell_in (w'.states j) i ≡ cell_in (w.states j) i) (sym at) (c.here ∙ ap (applied (cell_in (w.states r) i)) is)
      | inr ne ↦ ap (λ (s : State). cell_in s i) (c.apart k ne)
    ];
    before = c.before;
    only = λ s there. elim (c.only s there) [ inl old ↦ old | inr new ↦ absurd (subst (λ (x : Change). In s (sent_from r x.out)) is new) ];
    sound = c.sound;
  }

  -- the records, too
  pub same_record : (w w' : World) → Same w w' → (k : ℕ) → rec w' k ≡ rec w k
  same_record w w' c k = ap (record_of i) (c.cells k)

  pub same_led : (w w' : World) → Same w w' → (k : ℕ) → get (w'.states k).leads i ≡ get (w.states k).leads i
  same_led w w' c k = ap (λ (x : Cell). x.led) (c.cells k)

  pub base_same : (k : ℕ) (done : List Sent) (w w' : World) (s : Sent) → Same w w' → In s w.sent → Base k done w → Base k (s ∷ done) w'
  base_same k done w w' s c there g = record {
    sound = c.sound;
    low = λ x lt l ne. subst (λ (r : Record). r.promised ≤ b) (sym (same_record w w' c x)) (g.low x lt l ne);
    sent = λ t h. g.sent t (c.only t h);
    heard = λ t h. elim h [ inl e ↦ c.before t (subst (λ u. In u w.sent) e there) | inr old ↦ c.before t (g.heard t old) ];
  }

  pub preparing_same : (done : List Sent) (w w' : World) (s : Sent) → Same w w' → In s w.sent → (g : Preparing0 done w) → ((x : ℕ) → s ≡ from_q x (Prepare i b) → (rec w x).promised ≡ b) → ((x : ℕ) (v : Option Vote) → s ≡ to_q x (PrepareOk i b v) → is_some (answer g.answers x) ≡ true) → Preparing0 (s ∷ done) w'
  preparing_same done w w' s c there g p n = record {
    base = base_same 0 done w w' s c there g.base;
    vote = g.vote;
    answers = g.answers;
    mine = same_record w w' c q ∙ g.mine;
    unended = g.unended;
    led = same_led w w' c q ∙ g.led;
    few = g.few;
    own = g.own;
    asked = λ x lt ne. c.before _ (g.asked x lt ne);
    answered = λ x lt l ne at. (let t = g.answered x lt l ne (ap (λ (r : Record). r.promised) (sym (same_record w w' c x)) ∙ at) in (t.0, c.before _ t.1));
    reported = λ x v h. subst (λ (r : Record). PromisedReport v x r) (sym (same_record w w' c x)) (g.reported x v (c.only _ h));
    kept = λ x v e ne. c.before _ (g.kept x v e ne);
    promised = λ x h. subst (λ (r : Record). r.promised ≡ b) (sym (same_record w w' c x)) (elim h [ inl e ↦ p x e | inr old ↦ g.promised x old ]);
    counted = λ x v h. elim h [ inl e ↦ n x v e | inr old ↦ g.counted x v old ];
  }

  can_vote_same : (w w' : World) → Same w w' → (x : ℕ) → CanVote w x → CanVote w' x
  can_vote_same w w' c x g = record {
    is_live = g.is_live;
    other = g.other;
    at = ap (λ (r : Record). r.promised) (same_record w w' c x) ∙ g.at;
    vote = subst (λ (r : Record). (is_done_at b r.vote ≡ false) ⊎ ((is_settled_at b r.vote ≡ false) × ((a : Attrs) × In (to_q x (PreAcceptOk i b a)) w'.sent))) (sym (same_record w w' c x))
        (elim g.vote [ inl e ↦ inl e | inr t ↦ inr (t.0, ((t.1).0, c.before _ (t.1).1)) ]);
  }

  pub proposing_same : (done : List Sent) (w w' : World) (s : Sent) → Same w w' → In s w.sent → (g : Proposing1 done w) → ((x : ℕ) (d : Decree) → x < size f → g.chosen x ≡ true → s ≡ from_q x (PreAccept i b d) → (a : Attrs) × In (to_q x (PreAcceptOk i b a)) w.sent) → ((x : ℕ) (a : Attrs) → s ≡ to_q x (PreAcceptOk i b a) → is_some (answer g.answers x) ≡ true) → Proposing1 (s ∷ done) w'
  proposing_same done w w' s c there g p n = record {
    base = base_same 1 done w w' s c there g.base;
    decree = g.decree;
    answers = g.answers;
    mine = same_record w w' c q ∙ g.mine;
    led = same_led w w' c q ∙ g.led;
    few = g.few;
    asked = λ x lt ne. c.before _ (g.asked x lt ne);
    chosen = g.chosen;
    many = g.many;
    can = λ x lt e. can_vote_same w w' c x (g.can x lt e);
    answered = λ x d lt e h. (let t : (a : Attrs) × In (to_q x (PreAcceptOk i b a)) w.sent = elim h [ inl is ↦ p x d lt e is | inr old ↦ g.answered x d lt e old ] in (t.0, c.before _ t.1));
    counted = λ x a h. elim h [ inl e ↦ n x a e | inr old ↦ g.counted x a old ];
  }

  can_accept_same : (w w' : World) → Same w w' → (x : ℕ) → CanAccept w x → CanAccept w' x
  can_accept_same w w' c x g = record {
    is_live = g.is_live;
    other = g.other;
    at = ap (λ (r : Record). r.promised) (same_record w w' c x) ∙ g.at;
    vote = subst (λ (r : Record). (is_settled_at b r.vote ≡ false) ⊎ In (to_q x (AcceptOk i b)) w'.sent) (sym (same_record w w' c x)) (elim g.vote [ inl e ↦ inl e | inr t ↦ inr (c.before _ t) ]);
  }

  pub accepting_same : (done : List Sent) (w w' : World) (s : Sent) → Same w w' → In s w.sent → (g : Accepting2 done w) → ((x : ℕ) (d : Decree) → x < size f → g.chosen x ≡ true → s ≡ from_q x (Accept i b d) → In (to_q x (AcceptOk i b)) w.sent) → ((x : ℕ) → s ≡ to_q x (AcceptOk i b) → is_some (answer g.answers x) ≡ true) → Accepting2 (s ∷ done) w'
  accepting_same done w w' s c there g p n = record {
    base = base_same 2 done w w' s c there g.base;
    decree = g.decree;
    answers = g.answers;
    mine = same_record w w' c q ∙ g.mine;
    led = same_led w w' c q ∙ g.led;
    few = g.few;
    asked = λ x lt ne. c.before _ (g.asked x lt ne);
    chosen = g.chosen;
    many = g.many;
    can = λ x lt e. can_accept_same w w' c x (g.can x lt e);
    answered = λ x d lt e h. c.before _ (elim h [ inl is ↦ p x d lt e is | inr old ↦ g.answered x d lt e old ]);
    counted = λ x h. elim h [ inl e ↦ n x e | inr old ↦ g.counted x old ];
  }

  -- Another replica's step.

  -- x records y, and answers q by this
  pub record Reported (w w' : World) (x : ℕ) (y : Record) (m : Message) : Type 0 where
    pub now : rec w' x ≡ y
    pub apart : (k : ℕ) → k ≢ x → w'.states k ≡ w.states k
    pub before : (s : Sent) → In s w.sent → In s w'.sent
    pub new : In (to_q x m) w'.sent
    pub only : (s : Sent) → In s w'.sent → In s w.sent ⊎ (to_q x m ≡ s)
    pub sound : WorldSound f w'

  pub reported_by : (w w' : World) (x : ℕ) (y : Record) (m : Message) (ch : Change) → Changed w w' x ch → ch ≡ recorded y q m → Reported w w' x y m
  reported_by w w' x y m ch c is = record {
    now = ap (record_of i) c.here ∙ ap (λ e. record_of i (applied (cell_in (w.states x) i) e)) is;
    apart = c.apart;
    before = c.before;
    new = c.new _ (subst (λ (e : Change). In (to_q x m) (sent_from x e.out)) (sym is) (inl refl));
    only = λ s there. elim (c.only s there) [
      | inl old ↦ inl old
      | inr new ↦ (elim (subst (λ (e : Change). In s (sent_from x e.out)) is new) [ inl e ↦ inr e | inr none ↦ absurd none ])
    ];
    sound = c.sound;
  }

  reported_record : (w w' : World) (x : ℕ) (y : Record) (m : Message) → Reported w w' x y m → (k : ℕ) → k ≢ x → rec w' k ≡ rec w k
  reported_record w w' x y m c k ne = ap (λ (s : State). record_in s i) (c.apart k ne)

  base_reported : (k : ℕ) (done : List Sent) (w w' : World) (x : ℕ) (y : Record) (m : Message) (s : Sent) → Reported w w' x y m → y.promised ≤ b → Said k (to_q x m) → In s w.sent → Base k done w → Base k (s ∷ done) w'
  base_reported k done w w' x y m s c low said there g = record {
    sound = c.sound;
    low = λ j lt l ne. elim (cases_eq j x) [
      | inl is ↦ subst (λ (r : Record). r.promised ≤ b) (sym (ap (rec w') is ∙ c.now)) low
      | inr other ↦ subst (λ (r : Record). r.promised ≤ b) (sym (reported_record w w' x y m c j other)) (g.low j lt l ne)
    ];
    sent = λ t h. elim (c.only t h) [ inl old ↦ g.sent t old | inr e ↦ subst (λ u. Said k u) e said ];
    heard = λ t h. elim h [ inl e ↦ c.before t (subst (λ u. In u w.sent) e there) | inr old ↦ c.before t (g.heard t old) ];
  }

  pub proposing_reported : (done : List Sent) (w w' : World) (x : ℕ) (y : Record) (m : Message) (s : Sent) → Reported w w' x y m → x ≢ q → y.promised ≤ b → Said 1 (to_q x m) → In s w.sent → (g : Proposing1 done w) → (x < size f → g.chosen x ≡ true → CanVote w' x) →
      ((k : ℕ) (d : Decree) → k < size f → g.chosen k ≡ true → s ≡ from_q k (PreAccept i b d) → (a : Attrs) × In (to_q k (PreAcceptOk i b a)) w'.sent) → ((k : ℕ) (a : Attrs) → s ≡ to_q k (PreAcceptOk i b a) → ⊥) → Proposing1 (s ∷ done) w'
  proposing_reported done w w' x y m s c ne low said there g here p n = record {
    base = base_reported 1 done w w' x y m s c low said there g.base;
    decree = g.decree;
    answers = g.answers;
    mine = reported_record w w' x y m c q (λ e. ne (sym e)) ∙ g.mine;
    led = ap (λ (u : State). get u.leads i) (c.apart q (λ e. ne (sym e))) ∙ g.led;
    few = g.few;
    asked = λ k lt other. c.before _ (g.asked k lt other);
    chosen = g.chosen;
    many = g.many;
    can = λ k lt e. elim (cases_eq k x) [
      | inl is ↦ subst (λ j. CanVote w' j) (sym is) (here (subst (λ j. j < size f) is lt) (subst (λ j. g.chosen j ≡ true) is e))
      | inr other ↦ (
          let old = g.can k lt e in
          record {
            is_live = old.is_live;
            other = old.other;
            at = ap (λ (r : Record). r.promised) (reported_record w w' x y m c k other) ∙ old.at;
            vote = subst (λ (r : Record). (is_done_at b r.vote ≡ false) ⊎ ((is_settled_at b r.vote ≡ false) × ((a : Attrs) × In (to_q k (PreAcceptOk i b a)) w'.sent))) (sym (reported_record w w' x y m c k other))
                (elim old.vote [ inl u ↦ inl u | inr t ↦ inr (t.0, ((t.1).0, c.before _ (t.1).1)) ]);
          })
    ];
    answered = λ k d lt e h. elim h [ inl is ↦ p k d lt e is | inr old ↦ (let t = g.answered k d lt e old in (t.0, c.before _ t.1)) ];
    counted = λ k a h. elim h [ inl e ↦ absurd (n k a e) | inr old ↦ g.counted k a old ];
  }

  pub accepting_reported : (done : List Sent) (w w' : World) (x : ℕ) (y : Record) (m : Message) (s : Sent) → Reported w w' x y m → x ≢ q → y.promised ≤ b → Said 2 (to_q x m) → In s w.sent → (g : Accepting2 done w) → (x < size f → g.chosen x ≡ true → CanAccept w' x) →
      ((k : ℕ) (d : Decree) → k < size f → g.chosen k ≡ true → s ≡ from_q k (Accept i b d) → In (to_q k (AcceptOk i b)) w'.sent) → ((k : ℕ) → s ≡ to_q k (AcceptOk i b) → ⊥) → Accepting2 (s ∷ done) w'
  accepting_reported done w w' x y m s c ne low said there g here p n = record {
    base = base_reported 2 done w w' x y m s c low said there g.base;
    decree = g.decree;
    answers = g.answers;
    mine = reported_record w w' x y m c q (λ e. ne (sym e)) ∙ g.mine;
    led = ap (λ (u : State). get u.leads i) (c.apart q (λ e. ne (sym e))) ∙ g.led;
    few = g.few;
    asked = λ k lt other. c.before _ (g.asked k lt other);
    chosen = g.chosen;
    many = g.many;
    can = λ k lt e. elim (cases_eq k x) [
      | inl is ↦ subst (λ j. CanAccept w' j) (sym is) (here (subst (λ j. j < size f) is lt) (subst (λ j. g.chosen j ≡ true) is e))
      | inr other ↦ (
          let old = g.can k lt e in
          record {
            is_live = old.is_live;
            other = old.other;
            at = ap (λ (r : Record). r.promised) (reported_record w w' x y m c k other) ∙ old.at;
            vote = subst (λ (r : Record). (is_settled_at b r.vote ≡ false) ⊎ In (to_q k (AcceptOk i b)) w'.sent) (sym (reported_record w w' x y m c k other)) (elim old.vote [ inl u ↦ inl u | inr t ↦ inr (c.before _ t) ]);
          })
    ];
    answered = λ k d lt e h. elim h [ inl is ↦ p k d lt e is | inr old ↦ c.before _ (g.answered k d lt e old) ];
    counted = λ k h. elim h [ inl e ↦ absurd (n k e) | inr old ↦ g.counted k old ];
  }

  -- In phase 0 a replica that has promised less answers with its vote.
  pub preparing_reported : (done : List Sent) (w w' : World) (x : ℕ) → x ≢ q → live x ≡ true → (rec w x).promised < b → voted_ballot i (rec w x).vote < b → Reported w w' x (record { promised = b; vote = (rec w x).vote }) (PrepareOk i b (rec w x).vote) → In (from_q x (Prepare i b)) w.sent → Preparing0 done w → Preparing0 (from_q x (Prepare i b) ∷ done) w'
  preparing_reported done w w' x ne l less below c there g =
      let v : Option Vote = (rec w x).vote in
      let y : Record = record { promised = b; vote = v } in
      let m : Message = PrepareOk i b v in
      let s : Sent = from_q x (Prepare i b) in
      let keeps : (k : ℕ) → k ≢ x → rec w' k ≡ rec w k = reported_record w w' x y m c in
      let promised_report : PromisedReport v x (rec w' x) = subst (λ r. PromisedReport v x r) (sym c.now) (record { is_live = l; at = refl; vote = refl; below = below }) in
      record {
        base = base_reported 0 done w w' x y m s c (omega arith) (prepare_ok x v ne l refl) there g.base;
        vote = g.vote;
        answers = g.answers;
        mine = keeps q (λ e. ne (sym e)) ∙ g.mine;
        unended = g.unended;
        led = ap (λ (u : State). get u.leads i) (c.apart q (λ e. ne (sym e))) ∙ g.led;
        few = g.few;
        own = g.own;
        asked = λ k lt other. c.before _ (g.asked k lt other);
        answered = λ k lt lk nk at. elim (cases_eq k x) [
          | inl is ↦ (v, subst (λ j. In (to_q j m) w'.sent) (sym is) c.new)
          | inr other ↦ (let t = g.answered k lt lk nk (ap (λ (r : Record). r.promised) (sym (keeps k other)) ∙ at) in (t.0, c.before _ t.1))
        ];
        reported = λ k u h. elim (c.only _ h) [
          | inl old ↦ (let t = g.reported k u old in elim (cases_eq k x) [
            | inl is ↦ absurd (let at = t.at in let low : (rec w k).promised < b = subst (λ j. (rec w j).promised < b) (sym is) less in omega arith)
            | inr other ↦ subst (λ r. PromisedReport u k r) (sym (keeps k other)) t
          ])
          | inr e ↦ (
              let is : x ≡ k = ap (λ (z : Sent). z.from) e in
              let said : PrepareOk i b v ≡ PrepareOk i b u = ap (λ (z : Sent). z.message) e in
              let same : v ≡ u = cc in
              subst (λ j. PromisedReport u j (rec w' j)) is (subst (λ z. PromisedReport z x (rec w' x)) same promised_report))
        ];
        kept = λ k u e other. c.before _ (g.kept k u e other);
        promised = λ k h. elim h [
          | inl e ↦ (let is : x ≡ k = ap (λ (z : Sent). z.to) e in subst (λ j. (rec w' j).promised ≡ b) is promised_report.at)
          | inr old ↦ (let at = g.promised k old in elim (cases_eq k x) [
            | inl is ↦ absurd (let low : (rec w k).promised < b = subst (λ j. (rec w j).promised < b) (sym is) less in omega arith)
            | inr other ↦ ap (λ (r : Record). r.promised) (keeps k other) ∙ at
          ])
        ];
        counted = λ k u h. elim h [ inl e ↦ absurd (let t : Prepare i b ≡ PrepareOk i b u = ap (λ (z : Sent). z.message) e in cc) | inr old ↦ g.counted k u old ];
      }

-- A recovery at a ballot above all that f others have promised ends the instance: they are asked in turn, from the greatest down, and each answer is handled at once.
use Rattle.std.proofs.Common.{◌≡◌, ◌≢◌, ℕ, zero, suc, ◌+◌, ◌<◌, ◌≤◌, Bool, true, false, Option, Some, None, Ok, [], ◌∷◌, refl, sym, ap, subst, ◌∙◌, inl, inr, ◌⊎◌, arith}
use Rattle.std.proofs.lemmas.Bool.{le-leb, lt-leb, false≢true}
use Rattle.ep_base.specs.Attributes.{join}
use Rattle.ep_base.specs.Instances.{leader_of}
use Rattle.ep_base.specs.Quorums.{size}
use Rattle.ep_base.specs.Commands.{Command}
use Rattle.ep_base.specs.declared.attrs.Attrs.{Attrs}
use Rattle.ep_base.specs.declared.decree.Decree.{Decree}
use Rattle.ep_base.specs.declared.message.Message.{Message}
use Rattle.ep_base.specs.declared.message.Message.TheVariants.{PreAccept, PreAcceptOk, Accept, AcceptOk, Prepare, PrepareOk}
use Rattle.ep_base.specs.Messages.{instance_of_message}
use Rattle.ep_base.specs.declared.vote.VoteStatus.TheVariants.{PreAccepted, Accepted}
use Rattle.ep_base.specs.declared.vote.Vote.{Vote}
use Rattle.ep_rules.specs.Answers.{Answers, answer, with_answer}
use Rattle.ep_rules.specs.Cells.{Change, kept, recorded, voted, voted_ballot, is_committed, is_done_at, is_settled_at, committed_decree, Cell}
use Rattle.ep_rules.specs.Counting.{count, is_other}
use Rattle.ep_rules.specs.InterferenceSet.{interference}
use Rattle.ep_rules.specs.Maps.{get}
use Rattle.ep_rules.specs.Phases.{first_phase, accept_phase, commit_phase, with_attrs, others, joined}
use Rattle.ep_rules.specs.Recovery.{choose, act_on, answered_all, votes, did_commit}
use Rattle.ep_rules.specs.States.{State, cell_in, record_in}
use Rattle.ep_rules.specs.Steps.{Sent, handled, sent_from}
use Rattle.ep_rules.specs.Worlds.{World, In, Act, moved, Committed as IsCommitted}
use Rattle.ep_rules.specs.declared.led_instance.LedInstance.TheVariants.{Proposing, Accepting, Preparing}
use Rattle.ep_rules.specs.declared.record.Record.{Record}
use Rattle.ep_rules.proofs.Keeping.{applied, record_of}
use Rattle.ep_laws.proofs.Acting.{others_there, Done, handling, handle_done}
use Rattle.ep_laws.proofs.Leading.{LeadsTo, at_once, then_act}
use Rattle.ep_laws.proofs.Rules.{not_done, done_settled, prepare_answered, prepare_waits, prepare_chooses, Acted, commits, accepts, proposes, acted, chooses, vote_open, pre_accept_answered, pre_accept_waits, pre_accept_accepts, accept_answered, accept_waits, accept_commits}
use Rattle.ep_laws.proofs.Sound.{WorldSound, record_sound}
use Rattle.ep_laws.proofs.Tally.{count_here, count_skip, answer_here, answer_there, all_more, others_more, no_others, count_has}

-- f: how many may fail; q recovers i; those below t that pass p are the f others.
module _ (f : ℕ) (two : 0 < f) (few : size f ≤ 256) (live : ℕ → Bool) (q i : ℕ) (q_low : q < size f) (lead : leader_of i < size f) (p : ℕ → Bool) (t : ℕ) (t_low : t ≤ size f) (all : count t p ≡ f) (q_live : live q ≡ true) (p_live : (x : ℕ) → p x ≡ true → live x ≡ true) (p_other : (x : ℕ) → p x ≡ true → x ≢ q) where
  -- What every world on the way keeps to.
  pub record Ground (w : World) : Type 0 where
    pub sound : WorldSound f w
    pub room : (x : ℕ) → x < size f → live x ≡ true → (c : Command) → (interference (w.states x).records i c).seq ≤ 999999

  pub ground_kept : (w : World) (a : Act) (ch : Change) → Done f i w a ch → Ground w → Ground (moved f w a)
  ground_kept w a ch d g = record { sound = d.sound; room = λ x lt l c. subst (λ (o : Attrs). o.seq ≤ 999999) (sym (d.own x c)) (g.room x lt l c) }

  -- x handled a message, and q the answer
  pub record Exchange (w : World) (x : ℕ) (chx chq : Change) (w' : World) : Type 0 where
    pub asked : cell_in (w'.states x) i ≡ applied (cell_in (w.states x) i) chx
    pub reported : cell_in (w'.states q) i ≡ applied (cell_in (w.states q) i) chq
    pub apart : (k : ℕ) → k ≢ x → k ≢ q → w'.states k ≡ w.states k
    pub before : (s : Sent) → In s w.sent → In s w'.sent
    pub new : (s : Sent) → In s (sent_from q chq.out) → In s w'.sent
    pub ground : Ground w'

  pub exchange : (k : ℕ) (w : World) (P : World → Type 0) → Ground w → (x : ℕ) → x < size f → live x ≡ true → x ≢ q → (ask reply : Message) → instance_of_message ask ≡ i → instance_of_message reply ≡ i →
      In (record { from = q; to = x; message = ask }) w.sent → (chx : Change) → handled f x q (w.states x) ask ≡ Ok chx → chx.out ≡ (q, reply) ∷ [] → (chq : Change) → handled f q x (w.states q) reply ≡ Ok chq →
      ((w' : World) → Exchange w x chx chq w' → LeadsTo f live q i k w' P) → LeadsTo f live q i k w P
  exchange k w P g x lt l ne ask reply about about' there chx ex out chq eq go =
      let s : Sent = record { from = q; to = x; message = ask } in
      let a : Done f i w (handling s) chx = handle_done f few w g.sound i s q_low lt about there chx ex in
      let w1 : World = moved f w (handling s) in
      let r : Sent = record { from = x; to = q; message = reply } in
      let back : In r w1.sent = a.new r (subst (λ l. In r (sent_from x l)) (sym out) (inl refl)) in
      let same : w1.states q ≡ w.states q = a.apart q (λ e. ne (sym e)) in
      let b : Done f i w1 (handling r) chq = handle_done f few w1 a.sound i r lt q_low about' back chq (ap (λ u. handled f q x u reply) same ∙ eq) in
      let w2 : World = moved f w1 (handling r) in
      let g2 : Ground w2 = ground_kept w1 (handling r) chq b (ground_kept w (handling s) chx a g) in
      let e : Exchange w x chx chq w2 = record {
        asked = ap (λ u. cell_in u i) (b.apart x ne) ∙ a.here;
        reported = b.here ∙ ap (λ u. applied (cell_in u i) chq) same;
        apart = λ k nx nq. b.apart k nq ∙ a.apart k nx;
        before = λ m there. b.before m (a.before m there);
        new = b.new;
        ground = g2;
      } in
      then_act f live q i k k w (handling s) P a.happens l about (omega arith) (then_act f live q i k k w1 (handling r) P b.happens q_live about' (omega arith) (go w2 e))

  -- Going through the others, from t down.

  none_or : (n : ℕ) → (n ≡ 0) ⊎ (1 ≤ n)
  none_or zero = inl refl
  none_or (suc n) = inr (omega arith)

  below_or : (k m : ℕ) → (k < m) ⊎ (m ≤ k)
  below_or k m = grind arith

  below : (x m : ℕ) → x < suc m → (x ≡ m) ⊎ (x < m)
  below x m h = grind arith

  from : (x m : ℕ) → m ≤ x → (x ≡ m) ⊎ (suc m ≤ x)
  from x m h = grind arith

  module _ (b : ℕ) (above : leader_of i < b) where
    -- Accept.

    pub record Accepts (m : ℕ) (w : World) : Type 0 where
      pub ground : Ground w
      pub decree : Decree
      pub answers : Answers (Unit {0})
      pub mine : record_in (w.states q) i ≡ voted b Accepted decree
      pub led : get (w.states q).leads i ≡ Some (Accepting b answers)
      pub fresh : (r : ℕ) → r < m → answer answers r ≡ None
      pub many : others f q answers + count m p ≡ f
      pub asked : (x : ℕ) → x < m → p x ≡ true → In (record { from = q; to = x; message = Accept i b decree }) w.sent
      pub waiting : (x : ℕ) → x < m → p x ≡ true → ((record_in (w.states x) i).promised ≡ b) × (is_settled_at b (record_in (w.states x) i).vote ≡ false)

    abbrev pub Ended : World → Type 0
    Ended w = (d : Decree) × IsCommitted w q i d

    accepts_skip : (m : ℕ) (w : World) → p m ≡ false → Accepts (suc m) w → Accepts m w
    accepts_skip m w e a = record {
      ground = a.ground;
      decree = a.decree;
      answers = a.answers;
      mine = a.mine;
      led = a.led;
      fresh = λ r lt. a.fresh r (omega arith);
      many = (let c = count_skip m p e in let s = a.many in omega arith);
      asked = λ x lt. a.asked x (omega arith);
      waiting = λ x lt. a.waiting x (omega arith);
    }

    accepts_more : (m : ℕ) (w w' : World) → m < t → p m ≡ true → (a : Accepts (suc m) w) → (chx : Change) → Exchange w m chx (kept (Accepting b (with_answer a.answers m tt))) w' → Accepts m w'
    accepts_more m w w' low e a chx x =
        let apart : (k : ℕ) → k < m → p k ≡ true → w'.states k ≡ w.states k = λ k lt pk. x.apart k (λ is. absurd (omega arith)) (p_other k pk) in
        record {
          ground = x.ground;
          decree = a.decree;
          answers = with_answer a.answers m tt;
          mine = ap (record_of i) x.reported ∙ a.mine;
          led = ap (λ (c : Cell). c.led) x.reported;
          fresh = λ r lt. answer_there a.answers m tt r (λ is. absurd (omega arith)) ∙ a.fresh r (omega arith);
          many = (let c = count_here m p e in let s = a.many in let o = others_more a.answers m tt f q (omega arith) (p_other m e) (a.fresh m (omega arith)) in omega arith);
          asked = λ k lt pk. x.before _ (a.asked k (omega arith) pk);
          waiting = λ k lt pk. subst (λ (s : State). ((record_in s i).promised ≡ b) × (is_settled_at b (record_in s i).vote ≡ false)) (sym (apart k lt pk)) (a.waiting k (omega arith) pk);
        }

    module _ (m : ℕ) (w : World) (low : m < t) (e : p m ≡ true) (a : Accepts (suc m) w) where
      abbrev acceptor : Record
      acceptor = record_in (w.states q) i

      abbrev accept_change : Change
      accept_change = recorded (voted b Accepted a.decree) q (AcceptOk i b)

      abbrev acceptances : Answers (Unit {0})
      acceptances = with_answer a.answers m tt

      accept_at : acceptor.promised ≡ b
      accept_at = ap (λ (r : Record). r.promised) a.mine

      accept_unended : is_committed acceptor.vote ≡ false
      accept_unended = ap (λ (r : Record). is_committed r.vote) a.mine

      accept_fresh : answer a.answers m ≡ None
      accept_fresh = a.fresh m (omega arith)

      accept_count : others f q acceptances + count m p ≡ f
      accept_count =
          let now : others f q acceptances ≡ others f q a.answers + 1 = others_more a.answers m tt f q (omega arith) (p_other m e) accept_fresh in
          let left : count (suc m) p ≡ 1 + count m p = count_here m p e in
          let total : others f q a.answers + count (suc m) p ≡ f = a.many in
          omega arith

      accept_step : (chq : Change) → handled f q m (w.states q) (AcceptOk i b) ≡ Ok chq → ((w' : World) → Exchange w m accept_change chq w' → LeadsTo f live q i 0 w' Ended) → LeadsTo f live q i 0 w Ended
      accept_step chq =
          let here = a.waiting m (omega arith) e in
          exchange 0 w Ended a.ground m (omega arith) (p_live m e) (p_other m e) (Accept i b a.decree) (AcceptOk i b) refl refl (a.asked m (omega arith) e) accept_change
          (ap (λ (ch : Change). Ok ch) (accept_answered i q b a.decree (record_in (w.states m) i) here.0 here.1)) refl chq

      accept_next : 1 ≤ count m p → ((w' : World) → Accepts m w' → LeadsTo f live q i 0 w' Ended) → LeadsTo f live q i 0 w Ended
      accept_next some rec =
          accept_step (kept (Accepting b acceptances))
          (ap (λ (ch : Change). Ok ch) (accept_waits f i q m b acceptor (get (w.states q).leads i) a.answers a.led accept_fresh accept_at accept_unended (lt-leb f (others f q acceptances) (let c = accept_count in omega arith))))
          (λ w' x. rec w' (accepts_more m w w' low e a accept_change x))

      accept_last : count m p ≡ 0 → LeadsTo f live q i 0 w Ended
      accept_last none =
          accept_step (commit_phase f i q a.decree acceptor)
          (ap (λ (ch : Change). Ok ch) (accept_commits f i q m b acceptor (get (w.states q).leads i) a.answers a.led accept_fresh accept_at accept_unended (le-leb f (others f q acceptances) (let c = accept_count in omega arith))
          (record { status = Accepted; ballot = b; decree = a.decree }) (ap (λ (r : Record). r.vote) a.mine)))
          (λ w' x. at_once f live q i 0 w' Ended (a.decree, ap (λ c. committed_decree (record_of i c).vote) x.reported))

    accept_all : (m : ℕ) (w : World) → m ≤ t → 1 ≤ count m p → Accepts m w → LeadsTo f live q i 0 w Ended
    accept_all zero w low some a = absurd (omega arith)
    accept_all (suc m) w low some a = go (p m) refl (accept_all m)
      where
        go : (u : Bool) → p m ≡ u → ((w' : World) → m ≤ t → 1 ≤ count m p → Accepts m w' → LeadsTo f live q i 0 w' Ended) → LeadsTo f live q i 0 w Ended
        go false e rec = rec w (omega arith) (let c = count_skip m p e in omega arith) (accepts_skip m w e a)
        go true e rec = elim (none_or (count m p)) [
          | inl none ↦ accept_last m w (omega arith) e a none
          | inr more ↦ accept_next m w (omega arith) e a more (λ w' n. rec w' (omega arith) more n)
        ]

    -- Phase 1.

    pub record Proposes (m : ℕ) (w : World) : Type 0 where
      pub ground : Ground w
      pub decree : Decree
      pub answers : Answers Attrs
      pub mine : record_in (w.states q) i ≡ voted b PreAccepted decree
      pub led : get (w.states q).leads i ≡ Some (Proposing b q answers)
      pub fresh : (r : ℕ) → r < m → answer answers r ≡ None
      pub many : others f q answers + count m p ≡ f
      pub asked : (x : ℕ) → x < m → p x ≡ true → In (record { from = q; to = x; message = PreAccept i b decree }) w.sent
      pub waiting : (x : ℕ) → x < m → p x ≡ true → ((record_in (w.states x) i).promised ≡ b) × (is_done_at b (record_in (w.states x) i).vote ≡ false)
      pub answered : (x : ℕ) → m ≤ x → x < t → p x ≡ true → ((record_in (w.states x) i).promised ≡ b) × (is_settled_at b (record_in (w.states x) i).vote ≡ false)

    proposes_skip : (m : ℕ) (w : World) → p m ≡ false → Proposes (suc m) w → Proposes m w
    proposes_skip m w e a = record {
      ground = a.ground;
      decree = a.decree;
      answers = a.answers;
      mine = a.mine;
      led = a.led;
      fresh = λ r lt. a.fresh r (omega arith);
      many = (let c = count_skip m p e in let s = a.many in omega arith);
      asked = λ x lt. a.asked x (omega arith);
      waiting = λ x lt. a.waiting x (omega arith);
      answered = λ x le lt px. elim (from x m le) [ inl is ↦ absurd (false≢true (sym e ∙ subst (λ k. p k ≡ true) is px)) | inr more ↦ a.answered x more lt px ];
    }

    module _ (m : ℕ) (w : World) (low : m < t) (e : p m ≡ true) (a : Proposes (suc m) w) where
      abbrev proposer : Record
      proposer = record_in (w.states q) i

      abbrev own_attrs : Attrs
      own_attrs = interference (w.states m).records i a.decree.command

      abbrev joint : Attrs
      joint = join a.decree.attrs own_attrs

      abbrev pre_change : Change
      pre_change = recorded (voted b PreAccepted (with_attrs a.decree joint)) q (PreAcceptOk i b joint)

      abbrev pre_answers : Answers Attrs
      pre_answers = with_answer a.answers m joint

      pre_at : proposer.promised ≡ b
      pre_at = ap (λ (r : Record). r.promised) a.mine

      pre_unended : is_committed proposer.vote ≡ false
      pre_unended = ap (λ (r : Record). is_committed r.vote) a.mine

      pre_fresh : answer a.answers m ≡ None
      pre_fresh = a.fresh m (omega arith)

      pre_count : others f q pre_answers + count m p ≡ f
      pre_count =
          let now : others f q pre_answers ≡ others f q a.answers + 1 = others_more a.answers m joint f q (omega arith) (p_other m e) pre_fresh in
          let left : count (suc m) p ≡ 1 + count m p = count_here m p e in
          let total : others f q a.answers + count (suc m) p ≡ f = a.many in
          omega arith

      pre_step : (chq : Change) → handled f q m (w.states q) (PreAcceptOk i b joint) ≡ Ok chq → ((w' : World) → Exchange w m pre_change chq w' → LeadsTo f live q i 0 w' Ended) → LeadsTo f live q i 0 w Ended
      pre_step chq =
          let here = a.waiting m (omega arith) e in
          exchange 0 w Ended a.ground m (omega arith) (p_live m e) (p_other m e) (PreAccept i b a.decree) (PreAcceptOk i b joint) refl refl (a.asked m (omega arith) e) pre_change
          (pre_accept_answered i q b a.decree own_attrs (record_in (w.states m) i) here.0 here.1 ((a.ground).room m (omega arith) (p_live m e) a.decree.command)) refl chq

      -- those that have answered can accept
      pre_accepting : (chq : Change) (w' : World) → Exchange w m pre_change chq w' → (x : ℕ) → m ≤ x → x < t → p x ≡ true → ((record_in (w'.states x) i).promised ≡ b) × (is_settled_at b (record_in (w'.states x) i).vote ≡ false)
      pre_accepting chq w' ex x le lt px = elim (from x m le) [
        | inl is ↦ subst (λ k. ((record_in (w'.states k) i).promised ≡ b) × (is_settled_at b (record_in (w'.states k) i).vote ≡ false)) (sym is)
            (ap (λ c. (record_of i c).promised) ex.asked, ap (λ c. is_settled_at b (record_of i c).vote) ex.asked)
        | inr more ↦ subst (λ (s : State). ((record_in s i).promised ≡ b) × (is_settled_at b (record_in s i).vote ≡ false)) (sym (ex.apart x (λ is. absurd (omega arith)) (p_other x px))) (a.answered x more lt px)
      ]

      pre_next : 1 ≤ count m p → ((w' : World) → Proposes m w' → LeadsTo f live q i 0 w' Ended) → LeadsTo f live q i 0 w Ended
      pre_next some rec =
          pre_step (kept (Proposing b q pre_answers))
          (ap (λ (ch : Change). Ok ch) (pre_accept_waits f i q m b q joint proposer (get (w.states q).leads i) a.answers a.led pre_fresh pre_at pre_unended above (lt-leb f (others f q pre_answers) (let c = pre_count in omega arith))))
          (λ w' x. rec w' (record {
            ground = x.ground;
            decree = a.decree;
            answers = pre_answers;
            mine = ap (record_of i) x.reported ∙ a.mine;
            led = ap (λ (c : Cell). c.led) x.reported;
            fresh = λ r lt. answer_there a.answers m joint r (λ is. absurd (omega arith)) ∙ a.fresh r (omega arith);
            many = pre_count;
            asked = λ k lt pk. x.before _ (a.asked k (omega arith) pk);
            waiting = λ k lt pk. subst (λ (s : State). ((record_in s i).promised ≡ b) × (is_done_at b (record_in s i).vote ≡ false)) (sym (x.apart k (λ is. absurd (omega arith)) (p_other k pk))) (a.waiting k (omega arith) pk);
            answered = pre_accepting (kept (Proposing b q pre_answers)) w' x;
          }))

      pre_last : count m p ≡ 0 → LeadsTo f live q i 0 w Ended
      pre_last none =
          let d : Decree = joined f pre_answers a.decree in
          let chq : Change = accept_phase f i q b d in
          pre_step chq
          (ap (λ (ch : Change). Ok ch) (pre_accept_accepts f i q m b q joint proposer (get (w.states q).leads i) a.answers a.led pre_fresh pre_at pre_unended above (le-leb f (others f q pre_answers) (let c = pre_count in omega arith))
          (record { status = PreAccepted; ballot = b; decree = a.decree }) (ap (λ (r : Record). r.vote) a.mine)))
          (λ w' x. accept_all t w' (omega arith) (omega arith) (record {
            ground = x.ground;
            decree = d;
            answers = [];
            mine = ap (record_of i) x.reported;
            led = ap (λ (c : Cell). c.led) x.reported;
            fresh = λ r lt. refl;
            many = (let z = no_others (Unit {0}) f q in omega arith);
            asked = λ k lt pk. x.new _ (others_there q k f (Accept i b d) (omega arith) (p_other k pk));
            waiting = λ k lt pk. elim (below_or k m) [
              | inl less ↦ (let here = subst (λ (s : State). ((record_in s i).promised ≡ b) × (is_done_at b (record_in s i).vote ≡ false)) (sym (x.apart k (λ is. absurd (omega arith)) (p_other k pk))) (a.waiting k (omega arith) pk) in (here.0, done_settled b _ here.1))
              | inr le ↦ pre_accepting chq w' x k le lt pk
            ];
          }))

    propose_all : (m : ℕ) (w : World) → m ≤ t → 1 ≤ count m p → Proposes m w → LeadsTo f live q i 0 w Ended
    propose_all zero w low some a = absurd (omega arith)
    propose_all (suc m) w low some a = go (p m) refl (propose_all m)
      where
        go : (u : Bool) → p m ≡ u → ((w' : World) → m ≤ t → 1 ≤ count m p → Proposes m w' → LeadsTo f live q i 0 w' Ended) → LeadsTo f live q i 0 w Ended
        go false e rec = rec w (omega arith) (let c = count_skip m p e in omega arith) (proposes_skip m w e a)
        go true e rec = elim (none_or (count m p)) [
          | inl none ↦ pre_last m w (omega arith) e a none
          | inr more ↦ pre_next m w (omega arith) e a more (λ w' n. rec w' (omega arith) more n)
        ]

    -- Explicit prepare.

    -- x has promised b, and its vote, which is below b, is known
    pub record Reports (answers : Answers (Option Vote)) (x : ℕ) (r : Record) : Type 0 where
      pub at : r.promised ≡ b
      pub known : answer answers x ≡ Some r.vote
      pub below : voted_ballot i r.vote < b

    pub record Prepares (m : ℕ) (w : World) : Type 0 where
      pub ground : Ground w
      pub vote : Option Vote
      pub answers : Answers (Option Vote)
      pub mine : record_in (w.states q) i ≡ record { promised = b; vote = vote }
      pub led : get (w.states q).leads i ≡ Some (Preparing b answers)
      pub unended : is_committed vote ≡ false
      pub fresh : (r : ℕ) → r < m → r ≢ q → answer answers r ≡ None
      pub many : answered_all f answers + count m p ≡ f + 1
      pub asked : (x : ℕ) → x < m → p x ≡ true → In (record { from = q; to = x; message = Prepare i b }) w.sent
      pub waiting : (x : ℕ) → x < m → p x ≡ true → (record_in (w.states x) i).promised < b
      pub have_reported : (x : ℕ) → m ≤ x → x < t → p x ≡ true → Reports answers x (record_in (w.states x) i)

    prepares_skip : (m : ℕ) (w : World) → p m ≡ false → Prepares (suc m) w → Prepares m w
    prepares_skip m w e a = record {
      ground = a.ground;
      vote = a.vote;
      answers = a.answers;
      mine = a.mine;
      led = a.led;
      unended = a.unended;
      fresh = λ r lt ne. a.fresh r (omega arith) ne;
      many = (let c = count_skip m p e in let s = a.many in omega arith);
      asked = λ x lt. a.asked x (omega arith);
      waiting = λ x lt. a.waiting x (omega arith);
      have_reported = λ x le lt px. elim (from x m le) [ inl is ↦ absurd (false≢true (sym e ∙ subst (λ k. p k ≡ true) is px)) | inr more ↦ a.have_reported x more lt px ];
    }

    module _ (m : ℕ) (w : World) (low : m < t) (e : p m ≡ true) (a : Prepares (suc m) w) where
      abbrev preparer : Record
      preparer = record_in (w.states q) i

      abbrev asked_record : Record
      asked_record = record_in (w.states m) i

      abbrev report : Option Vote
      report = asked_record.vote

      abbrev prepare_change : Change
      prepare_change = recorded (record { promised = b; vote = report }) q (PrepareOk i b report)

      abbrev reports_now : Answers (Option Vote)
      reports_now = with_answer a.answers m report

      prepare_at : preparer.promised ≡ b
      prepare_at = ap (λ (r : Record). r.promised) a.mine

      prepare_unended : is_committed preparer.vote ≡ false
      prepare_unended = ap (λ (r : Record). is_committed r.vote) a.mine ∙ a.unended

      prepare_fresh : answer a.answers m ≡ None
      prepare_fresh = a.fresh m (omega arith) (p_other m e)

      prepare_count : answered_all f reports_now + count m p ≡ f + 1
      prepare_count =
          let now : answered_all f reports_now ≡ answered_all f a.answers + 1 = all_more a.answers m report f (omega arith) prepare_fresh in
          let left : count (suc m) p ≡ 1 + count m p = count_here m p e in
          let total : answered_all f a.answers + count (suc m) p ≡ f + 1 = a.many in
          omega arith

      prepare_step : (chq : Change) → handled f q m (w.states q) (PrepareOk i b report) ≡ Ok chq → ((w' : World) → Exchange w m prepare_change chq w' → LeadsTo f live q i 0 w' Ended) → LeadsTo f live q i 0 w Ended
      prepare_step chq =
          exchange 0 w Ended a.ground m (omega arith) (p_live m e) (p_other m e) (Prepare i b) (PrepareOk i b report) refl refl (a.asked m (omega arith) e) prepare_change
          (ap (λ (ch : Change). Ok ch) (prepare_answered i q b asked_record (a.waiting m (omega arith) e))) refl chq

      reports_kept : (chq : Change) (w' : World) → Exchange w m prepare_change chq w' → (x : ℕ) → m ≤ x → x < t → p x ≡ true → Reports reports_now x (record_in (w'.states x) i)
      reports_kept chq w' ex x le lt px = elim (from x m le) [
        | inl is ↦ subst (λ k. Reports reports_now k (record_in (w'.states k) i)) (sym is)
            (subst (λ r. Reports reports_now m r) (sym (ap (record_of i) ex.asked)) (record {
              at = refl;
              known = answer_here a.answers m report;
              below = (let o = (record_sound (size f) few (w.states m) (((a.ground).sound).states m) i lead).order in let h = a.waiting m (omega arith) e in omega arith);
            }))
        | inr more ↦ (
            let old = a.have_reported x more lt px in
            subst (λ (s : State). Reports reports_now x (record_in s i)) (sym (ex.apart x (λ is. absurd (omega arith)) (p_other x px)))
            (record { at = old.at; known = answer_there a.answers m report x (λ is. absurd (omega arith)) ∙ old.known; below = old.below }))
      ]

      prepare_next : 1 ≤ count m p → ((w' : World) → Prepares m w' → LeadsTo f live q i 0 w' Ended) → LeadsTo f live q i 0 w Ended
      prepare_next some rec =
          prepare_step (kept (Preparing b reports_now))
          (prepare_waits f i q m b report (interference (w.states q).records i) preparer (get (w.states q).leads i) a.answers a.led prepare_fresh prepare_at prepare_unended (lt-leb (f + 1) (answered_all f reports_now) (let c = prepare_count in omega arith)))
          (λ w' x. rec w' (record {
            ground = x.ground;
            vote = a.vote;
            answers = reports_now;
            mine = ap (record_of i) x.reported ∙ a.mine;
            led = ap (λ (c : Cell). c.led) x.reported;
            unended = a.unended;
            fresh = λ r lt ne. answer_there a.answers m report r (λ is. absurd (omega arith)) ∙ a.fresh r (omega arith) ne;
            many = prepare_count;
            asked = λ k lt pk. x.before _ (a.asked k (omega arith) pk);
            waiting = λ k lt pk. subst (λ (s : State). (record_in s i).promised < b) (sym (x.apart k (λ is. absurd (omega arith)) (p_other k pk))) (a.waiting k (omega arith) pk);
            have_reported = reports_kept (kept (Preparing b reports_now)) w' x;
          }))

      -- nobody that answered has committed
      abbrev NobodyEnded : Type 0
      NobodyEnded = (r : ℕ) → r < size f → votes did_commit (answer reports_now r) ≡ false

      -- so each of them can vote
      ready : count m p ≡ 0 → NobodyEnded → (chq : Change) (w' : World) → Exchange w m prepare_change chq w' → (x : ℕ) → x < t → p x ≡ true → ((record_in (w'.states x) i).promised ≡ b) × (is_done_at b (record_in (w'.states x) i).vote ≡ false)
      ready none nobody chq w' ex x lt px = elim (below_or x m) [
        | inl less ↦ absurd (let c = count_has m x p less px in omega arith)
        | inr le ↦ (
            let old = reports_kept chq w' ex x le lt px in
            (old.at, not_done i b (record_in (w'.states x) i).vote (vote_open (answer reports_now x) (record_in (w'.states x) i).vote (nobody x (omega arith)) old.known) old.below))
      ]

      prepare_commits : (d : Decree) → handled f q m (w.states q) (PrepareOk i b report) ≡ Ok (commit_phase f i q d preparer) → LeadsTo f live q i 0 w Ended
      prepare_commits d is =
          prepare_step (commit_phase f i q d preparer) is
          (λ w' x. at_once f live q i 0 w' Ended (d, ap (λ c. committed_decree (record_of i c).vote) x.reported))

      prepare_did : count m p ≡ 0 → NobodyEnded → Acted f i q b preparer (handled f q m (w.states q) (PrepareOk i b report)) → LeadsTo f live q i 0 w Ended
      prepare_did none nobody (commits d is) = prepare_commits d is
      prepare_did none nobody (accepts d is) =
          prepare_step (accept_phase f i q b d) is
          (λ w' x. accept_all t w' (omega arith) (omega arith) (record {
            ground = x.ground;
            decree = d;
            answers = [];
            mine = ap (record_of i) x.reported;
            led = ap (λ (c : Cell). c.led) x.reported;
            fresh = λ r lt. refl;
            many = (let z = no_others (Unit {0}) f q in omega arith);
            asked = λ k lt pk. x.new _ (others_there q k f (Accept i b d) (omega arith) (p_other k pk));
            waiting = λ k lt pk. (let r = ready none nobody (accept_phase f i q b d) w' x k lt pk in (r.0, done_settled b _ r.1));
          }))
      prepare_did none nobody (proposes d is) =
          prepare_step (first_phase (is_other q) f i b q d) is
          (λ w' x. propose_all t w' (omega arith) (omega arith) (record {
            ground = x.ground;
            decree = d;
            answers = [];
            mine = ap (record_of i) x.reported;
            led = ap (λ (c : Cell). c.led) x.reported;
            fresh = λ r lt. refl;
            many = (let z = no_others Attrs f q in omega arith);
            asked = λ k lt pk. x.new _ (others_there q k f (PreAccept i b d) (omega arith) (p_other k pk));
            waiting = λ k lt pk. ready none nobody (first_phase (is_other q) f i b q d) w' x k lt pk;
            answered = λ k le lt pk. absurd (omega arith);
          }))

      prepare_last : count m p ≡ 0 → LeadsTo f live q i 0 w Ended
      prepare_last none =
          let own : Command → Attrs = interference (w.states q).records i in
          let choice = choose f (leader_of i) (λ k. answer reports_now k) in
          let is : handled f q m (w.states q) (PrepareOk i b report) ≡ act_on f i q b own preparer choice =
          prepare_chooses f i q m b report own preparer (get (w.states q).leads i) a.answers a.led prepare_fresh prepare_at prepare_unended (le-leb (f + 1) (answered_all f reports_now) (let c = prepare_count in omega arith)) in
          elim (chooses f (leader_of i) (λ k. answer reports_now k)) [
            | inl chosen ↦ prepare_commits chosen.0 (is ∙ ap (act_on f i q b own preparer) chosen.1)
            | inr nobody ↦ prepare_did none nobody (subst (λ o. Acted f i q b preparer o) (sym is) (acted f i q b own preparer ((a.ground).room q q_low q_live) choice))
          ]

    pub prepare_all : (m : ℕ) (w : World) → m ≤ t → 1 ≤ count m p → Prepares m w → LeadsTo f live q i 0 w Ended
    prepare_all zero w low some a = absurd (omega arith)
    prepare_all (suc m) w low some a = go (p m) refl (prepare_all m)
      where
        go : (u : Bool) → p m ≡ u → ((w' : World) → m ≤ t → 1 ≤ count m p → Prepares m w' → LeadsTo f live q i 0 w' Ended) → LeadsTo f live q i 0 w Ended
        go false e rec = rec w (omega arith) (let c = count_skip m p e in omega arith) (prepares_skip m w e a)
        go true e rec = elim (none_or (count m p)) [
          | inl none ↦ prepare_last m w (omega arith) e a none
          | inr more ↦ prepare_next m w (omega arith) e a more (λ w' n. rec w' (omega arith) more n)
        ]

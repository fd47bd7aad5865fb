-- An instance in which a replica has voted, and all live ones for one command or not at all, is ended by that command.
use Rattle.std.proofs.Common.{◌≡◌, ℕ, ◌+◌, ◌<◌, ◌≤◌, Bool, true, false, cond, eqb, ltb, leb, Option, Some, None, is_some, Result, Ok, Err, List, [], ◌∷◌, refl, sym, ap, subst, ◌∙◌, inl, inr, arith}
use Rattle.std.proofs.lemmas.Bool.{and_parts, eqb-true, eq-eqb, ltb-false, cases_eq, false≢true}
use Rattle.ep_base.specs.Attributes.{join}
use Rattle.ep_base.specs.Ballots.{ballot_of, highest_counter}
use Rattle.ep_base.specs.Commands.{Command}
use Rattle.ep_base.specs.Instances.{leader_of}
use Rattle.ep_base.specs.Messages.{instance_of_message}
use Rattle.ep_base.specs.Quorums.{size}
use Rattle.ep_base.specs.declared.attrs.Attrs.{Attrs}
use Rattle.ep_base.specs.declared.decree.Decree.{Decree}
use Rattle.ep_base.specs.declared.message.Message.{Message}
use Rattle.ep_base.specs.declared.message.Message.TheVariants.{PreAccept, PreAcceptOk, Accept, AcceptOk, Commit, Prepare, PrepareOk, Nack}
use Rattle.ep_base.specs.declared.vote.VoteStatus.TheVariants.{PreAccepted, Accepted}
use Rattle.ep_base.specs.declared.vote.Vote.{Vote}
use Rattle.ep_rules.specs.Answers.{Answers, answer, with_answer}
use Rattle.ep_rules.specs.Cells.{Cell, record_or_fresh, Change, Refusal, nothing, answered, kept, voted, voted_ballot, is_committed, is_done_at, is_settled_at}
use Rattle.ep_rules.specs.Counting.{is_other}
use Rattle.ep_rules.specs.InterferenceSet.{interference}
use Rattle.ep_rules.specs.Maps.{get}
use Rattle.ep_rules.specs.Phases.{Outcome, limited, first_phase, accept_phase, with_commit, commit_phase, with_attrs, on_pre_accept, on_accept, on_commit, is_usable, others, fast_answered, all_equal, joined, slow_path, fast_path, count_pre_accept_ok, use_pre_accept_ok, on_pre_accept_ok, commit_own, use_accept_ok, on_accept_ok}
use Rattle.ep_rules.specs.Recovery.{Choice, CommitIt, AcceptIt, AcceptFast, ProposeIt, ProposeNoop, choose, act_on, next_counter, recover, on_prepare, answered_all, use_prepare_ok, on_prepare_ok}
use Rattle.ep_rules.specs.States.{State, cell_in, record_in}
use Rattle.ep_rules.specs.Steps.{Sent, Event, Propose, Handle, GiveUp, Recover, Execute, is_for, handled, at, acts, sent_from}
use Rattle.ep_rules.specs.Worlds.{World, In, Act, IsThere, Happens, moved, IsRun, ends}
use Rattle.ep_rules.specs.declared.led_instance.LedInstance.{LedInstance}
use Rattle.ep_rules.specs.declared.led_instance.LedInstance.TheVariants.{Proposing, Accepting, Preparing}
use Rattle.ep_rules.specs.declared.record.Record.{Record}
use Rattle.ep_rules.proofs.Keeping.{AllSent, sent_to_those, split, newer, newer_entry, applied, record_of}
use Rattle.ep_rules.proofs.Lookups.{answer_back}
use Rattle.ep_rules.proofs.Moves.{moves, taken_of, unscreened}
use Rattle.ep_laws.specs.Alone.{Serves, AllServe}
use Rattle.ep_laws.proofs.Choosing.{VoteFor, ChoiceFor, top_voted, chosen_for}
use Rattle.ep_laws.proofs.Sound.{in_cases}
use Rattle.ep_laws.proofs.Spreading.{IsOf, served}

-- a vote at the default ballot l or above it
pub record VotedAbove (l : ℕ) (x : Record) : Type 0 where
  pub last : Vote
  pub is : x.vote ≡ Some last
  pub above : l ≤ last.ballot
  pub promised : l ≤ x.promised

-- and one that is an answer
pub record AnsweredAbove (l me : ℕ) (answers : Answers (Option Vote)) : Type 0 where
  pub last : Vote
  pub is : answer answers me ≡ Some (Some last)
  pub above : l ≤ last.ballot

-- Of instance i, in which q has voted for c: what replica me records, leads and sends.
module _ (c : Command) (i q : ℕ) where
  abbrev l : ℕ
  l = leader_of i

  pub record RecordFor (me : ℕ) (x : Record) : Type 0 where
    pub vote : VoteFor c x.vote
    pub own : me ≡ q → VotedAbove l x

  abbrev pub LedFor : ℕ → LedInstance → Type 0
  LedFor me (Proposing b s answers) = Unit {0}
  LedFor me (Accepting b answers) = Unit {0}
  LedFor me (Preparing b answers) = me ≡ q → ((k : ℕ) (v : Option Vote) → answer answers k ≡ Some v → VoteFor c v) × AnsweredAbove l me answers

  abbrev pub LeadFor : ℕ → Option LedInstance → Type 0
  LeadFor me None = Unit {0}
  LeadFor me (Some led) = LedFor me led

  abbrev pub NewLeadFor : ℕ → Option (Option LedInstance) → Type 0
  NewLeadFor me None = Unit {0}
  NewLeadFor me (Some led) = LeadFor me led

  abbrev pub EntryFor : ℕ → Option Record → Type 0
  EntryFor me None = Unit {0}
  EntryFor me (Some x) = RecordFor me x

  abbrev pub MessageFor : (from to : ℕ) → Message → Type 0
  MessageFor from to (PreAccept j b x) = x.command ≡ c
  MessageFor from to (PreAcceptOk j b a) = Unit {0}
  MessageFor from to (Accept j b x) = x.command ≡ c
  MessageFor from to (AcceptOk j b) = Unit {0}
  MessageFor from to (Commit j x) = x.command ≡ c
  MessageFor from to (Prepare j b) = from ≡ q
  MessageFor from to (PrepareOk j b v) = (to ≡ q) × VoteFor c v
  MessageFor from to (Nack j b p) = Unit {0}

  pub record ChangeFor (me : ℕ) (ch : Change) : Type 0 where
    pub entry : EntryFor me ch.entry
    pub led : NewLeadFor me ch.led
    pub out : AllSent (λ to m. MessageFor me to m) ch.out

  abbrev pub OutcomeFor : ℕ → Outcome → Type 0
  OutcomeFor me (Ok ch) = ChangeFor me ch
  OutcomeFor me (Err e) = Unit {0}

  -- The rules.
  module _ (f me : ℕ) (low : q < size f) (x : Record) (ok : RecordFor me x) where
    for_nothing : ChangeFor me nothing
    for_nothing = record { entry = tt; led = tt; out = tt }

    for_nack : (from b : ℕ) → ChangeFor me (answered from (Nack i b x.promised))
    for_nack from b = record { entry = tt; led = tt; out = (tt, tt) }

    for_kept : (led : LedInstance) → LedFor me led → ChangeFor me (kept led)
    for_kept led h = record { entry = tt; led = h; out = tt }

    -- the default ballot is not above what q has promised
    reached : me ≡ q → l ≤ x.promised
    reached e = (ok.own e).promised

    for_preaccepted : (b : ℕ) (d : Decree) → d.command ≡ c → (me ≡ q → l ≤ b) → RecordFor me (voted b PreAccepted d)
    for_preaccepted b d w le = record { vote = w; own = λ e. record { last = record { status = PreAccepted; ballot = b; decree = d }; is = refl; above = le e; promised = le e } }

    for_accepted : (b : ℕ) (d : Decree) → d.command ≡ c → (me ≡ q → l ≤ b) → RecordFor me (voted b Accepted d)
    for_accepted b d w le = record { vote = w; own = λ e. record { last = record { status = Accepted; ballot = b; decree = d }; is = refl; above = le e; promised = le e } }

    for_promised : (b : ℕ) → x.promised ≤ b → RecordFor me (record { promised = b; vote = x.vote })
    for_promised b le = record { vote = ok.vote; own = λ e. (let o = ok.own e in record { last = o.last; is = o.is; above = o.above; promised = (let p = o.promised in omega arith) }) }

    for_committed : (d : Decree) → d.command ≡ c → RecordFor me (with_commit i x d)
    for_committed d w = record {
      vote = w;
      own = λ e. (let o = ok.own e in record { last = _; is = refl; above = (let v : voted_ballot i x.vote ≡ o.last.ballot = ap (voted_ballot i) o.is in let a = o.above in omega arith); promised = o.promised });
    }

    for_first_phase : (asked : ℕ → Bool) (b s : ℕ) (d : Decree) → d.command ≡ c → (me ≡ q → l ≤ b) → ChangeFor me (first_phase asked f i b s d)
    for_first_phase asked b s d w le = record { entry = for_preaccepted b d w le; led = tt; out = sent_to_those _ asked (size f) (PreAccept i b d) (λ k lt e. w) }

    for_accept_phase : (b : ℕ) (d : Decree) → d.command ≡ c → (me ≡ q → l ≤ b) → ChangeFor me (accept_phase f i me b d)
    for_accept_phase b d w le = record { entry = for_accepted b d w le; led = tt; out = sent_to_those _ (is_other me) (size f) (Accept i b d) (λ k lt e. w) }

    for_commit_phase : (d : Decree) → d.command ≡ c → ChangeFor me (commit_phase f i me d x)
    for_commit_phase d w = record { entry = for_committed d w; led = tt; out = sent_to_those _ (is_other me) (size f) (Commit i d) (λ k lt e. w) }

    for_limited : (a : Attrs) (ch : Change) → ChangeFor me ch → OutcomeFor me (limited a ch)
    for_limited a ch p = split (OutcomeFor me) (leb a.seq 1000000) _ _ (λ e. p) (λ e. tt)

    not_below : (b : ℕ) → ltb b x.promised ≡ false → me ≡ q → l ≤ b
    not_below b e is = let r = reached is in let t = ltb-false b x.promised e in omega arith

    for_pre_accept : (from b : ℕ) (d : Decree) (own : Attrs) → d.command ≡ c → OutcomeFor me (on_pre_accept i from b d own x)
    for_pre_accept from b d own w =
        split (OutcomeFor me) (ltb b x.promised) _ _ (λ e. for_nack from b) (λ e.
        split (OutcomeFor me) (is_done_at b x.vote) _ _ (λ u. for_nothing) (λ u.
        for_limited own _ (record { entry = for_preaccepted b (with_attrs d (join d.attrs own)) w (not_below b e); led = tt; out = (tt, tt) })))

    for_accept : (from b : ℕ) (d : Decree) → d.command ≡ c → ChangeFor me (on_accept i from b d x)
    for_accept from b d w =
        split (ChangeFor me) (ltb b x.promised) _ _ (λ e. for_nack from b) (λ e.
        split (ChangeFor me) (is_settled_at b x.vote) _ _ (λ u. for_nothing) (λ u.
        record { entry = for_accepted b d w (not_below b e); led = tt; out = (tt, tt) }))

    for_commit : (d : Decree) → d.command ≡ c → ChangeFor me (on_commit i d x)
    for_commit d w = split (ChangeFor me) (is_committed x.vote) _ _ (λ e. for_nothing) (λ e. record { entry = for_committed d w; led = tt; out = tt })

    -- a ballot that may still be led is promised
    usable_above : (b lb : ℕ) → is_usable b x lb ≡ true → me ≡ q → l ≤ b
    usable_above b lb u is =
        let p = and_parts (eqb lb b) _ u in
        let at : x.promised ≡ b = eqb-true x.promised b (and_parts (eqb x.promised b) _ p.1).0 in
        let r = reached is in
        omega arith

    for_slow : (b : ℕ) (answers : Answers Attrs) → (me ≡ q → l ≤ b) → (v : Option Vote) → VoteFor c v → ChangeFor me (slow_path f i me b answers v)
    for_slow b answers le None w = for_nothing
    for_slow b answers le (Some v) w = for_accept_phase b (joined f answers v.decree) w le

    for_fast : (a : Attrs) (v : Option Vote) → VoteFor c v → ChangeFor me (fast_path f i me a x v)
    for_fast a None w = for_nothing
    for_fast a (Some v) w = for_commit_phase (with_attrs v.decree a) w

    for_count_pre_accept_ok : (b s : ℕ) (a : Attrs) (answers : Answers Attrs) → (me ≡ q → l ≤ b) → ChangeFor me (count_pre_accept_ok f i me b s a answers x)
    for_count_pre_accept_ok b s a answers le =
        split (ChangeFor me) (eqb b (leader_of i)) _ _
        (λ e. split (ChangeFor me) (fast_answered f (leader_of i) s answers) _ _
        (λ e. split (ChangeFor me) (all_equal f a answers) _ _ (λ e. for_fast a x.vote ok.vote) (λ e. for_slow b answers le x.vote ok.vote))
        (λ e. for_kept (Proposing b s answers) tt))
        (λ e. split (ChangeFor me) (leb f (others f me answers)) _ _ (λ e. for_slow b answers le x.vote ok.vote) (λ e. for_kept (Proposing b s answers) tt))

    for_pre_accept_ok : (from b : ℕ) (a : Attrs) (led : Option LedInstance) → ChangeFor me (on_pre_accept_ok f i me from b a x led)
    for_pre_accept_ok from b a None = for_nothing
    for_pre_accept_ok from b a (Some (Accepting lb answers)) = for_nothing
    for_pre_accept_ok from b a (Some (Preparing lb answers)) = for_nothing
    for_pre_accept_ok from b a (Some (Proposing lb s answers)) =
        split (λ more. ChangeFor me (use_pre_accept_ok f i me b a x more)) (is_some (answer answers from)) _ _ (λ e. for_nothing) (λ e.
        split (ChangeFor me) (is_usable b x lb) _ _ (λ u. for_count_pre_accept_ok b s a (with_answer answers from a) (usable_above b lb u)) (λ u. for_nothing))

    for_commit_own : (v : Option Vote) → VoteFor c v → ChangeFor me (commit_own f i me x v)
    for_commit_own None w = for_nothing
    for_commit_own (Some v) w = for_commit_phase v.decree w

    for_accept_ok : (from b : ℕ) (led : Option LedInstance) → ChangeFor me (on_accept_ok f i me from b x led)
    for_accept_ok from b None = for_nothing
    for_accept_ok from b (Some (Proposing lb s answers)) = for_nothing
    for_accept_ok from b (Some (Preparing lb answers)) = for_nothing
    for_accept_ok from b (Some (Accepting lb answers)) =
        split (λ more. ChangeFor me (use_accept_ok f i me b x more)) (is_some (answer answers from)) _ _ (λ e. for_nothing) (λ e.
        split (ChangeFor me) (is_usable b x lb) _ _
        (λ u. split (ChangeFor me) (leb f (others f me (with_answer answers from tt))) _ _ (λ m. for_commit_own x.vote ok.vote) (λ m. for_kept (Accepting b (with_answer answers from tt)) tt))
        (λ u. for_nothing))

    for_recover : (reported : ℕ) → me ≡ q → me < 256 → OutcomeFor me (recover f i me x reported)
    for_recover reported is few =
        let b : ℕ = ballot_of (next_counter x reported) me in
        let o = ok.own is in
        split (OutcomeFor me) (is_committed x.vote) _ _ (λ e. tt) (λ e.
        split (OutcomeFor me) (leb (next_counter x reported) highest_counter) _ _
        (λ u. record {
          entry = for_promised b (omega arith);
          led = λ e. (
            (λ k v at. elim (answer_back [] me x.vote k v at) [ inl none ↦ absurd (cc) | inr t ↦ subst (λ w. VoteFor c w) t.1 ok.vote ]),
            record { last = o.last; is = ap (λ t. cond t (Some x.vote) None) (eq-eqb me me refl) ∙ ap (λ v. Some v) o.is; above = o.above },
          );
          out = sent_to_those _ (is_other me) (size f) (Prepare i b) (λ k lt e. is);
        })
        (λ u. tt))

    for_prepare : (from b : ℕ) → from ≡ q → ChangeFor me (on_prepare i from b x)
    for_prepare from b is =
        split (ChangeFor me) (ltb b x.promised) _ _ (λ e. for_nack from b) (λ e.
        split (ChangeFor me) (eqb b x.promised) _ _ (λ u. for_nothing) (λ u.
        record { entry = for_promised b (let t = ltb-false b x.promised e in omega arith); led = tt; out = ((is, ok.vote), tt) }))

    for_choice : (b : ℕ) (own : Command → Attrs) (ch : Choice) → (me ≡ q → l ≤ b) → ChoiceFor c ch → OutcomeFor me (act_on f i me b own x ch)
    for_choice b own (CommitIt d) le p = for_commit_phase d p
    for_choice b own (AcceptIt d) le p = for_accept_phase b d p le
    for_choice b own (AcceptFast d) le p = for_accept_phase b d p le
    for_choice b own (ProposeIt d) le p = for_limited (own d) _ (for_first_phase (is_other me) b me (record { command = d; attrs = own d }) p le)
    for_choice b own ProposeNoop le p = absurd p

    more_for : (answers : Answers (Option Vote)) (from : ℕ) (v : Option Vote) → VoteFor c v → ((k : ℕ) (u : Option Vote) → answer answers k ≡ Some u → VoteFor c u) → (k : ℕ) (u : Option Vote) → answer (with_answer answers from v) k ≡ Some u → VoteFor c u
    more_for answers from v w all k u e = elim (answer_back answers from v k u e) [ inl old ↦ all k u old | inr t ↦ subst (λ z. VoteFor c z) t.1 w ]

    -- an answer of another one leaves q's own
    own_stays : (answers : Answers (Option Vote)) (from : ℕ) (v : Option Vote) → is_some (answer answers from) ≡ false → AnsweredAbove l me answers → AnsweredAbove l me (with_answer answers from v)
    own_stays answers from v new a = record {
      last = a.last;
      is = go (eqb from me) refl;
      above = a.above;
    }
      where
        go : (b : Bool) → eqb from me ≡ b → cond b (Some v) (answer answers me) ≡ Some (Some a.last)
        go true e = absurd (let same : answer answers from ≡ Some (Some a.last) = ap (λ k. answer answers k) (eqb-true from me e) ∙ a.is in false≢true (sym new ∙ ap (λ o. is_some o) same))
        go false e = a.is

    for_prepare_ok : (from b : ℕ) (v : Option Vote) (own : Command → Attrs) (led : Option LedInstance) → me ≡ q → VoteFor c v → LeadFor me led → OutcomeFor me (on_prepare_ok f i me from b v own x led)
    for_prepare_ok from b v own None is w h = for_nothing
    for_prepare_ok from b v own (Some (Proposing lb s answers)) is w h = for_nothing
    for_prepare_ok from b v own (Some (Accepting lb answers)) is w h = for_nothing
    for_prepare_ok from b v own (Some (Preparing lb answers)) is w h =
        split (λ more. OutcomeFor me (use_prepare_ok f i me b own x more)) (is_some (answer answers from)) _ _ (λ e. for_nothing) (λ new.
        let all = more_for answers from v w (h is).0 in
        let mine : AnsweredAbove l me (with_answer answers from v) = own_stays answers from v new (h is).1 in
        split (OutcomeFor me) (is_usable b x lb) _ _
        (λ u. split (OutcomeFor me) (leb (f + 1) (answered_all f (with_answer answers from v))) _ _
        (λ m. for_choice b own (choose f l (λ k. answer (with_answer answers from v) k)) (usable_above b lb u)
        (chosen_for f l (λ k. answer (with_answer answers from v) k) c all (top_voted l (λ k. answer (with_answer answers from v) k) (size f) me mine.last (subst (λ k. k < size f) (sym is) low) mine.is mine.above)))
        (λ m. for_kept (Preparing b (with_answer answers from v)) (λ e. (all, mine))))
        (λ u. for_nothing))

  -- A state.
  module _ (f me : ℕ) (few : size f ≤ 256) (low : q < size f) (s : State) (ok : RecordFor me (record_in s i)) (led : LeadFor me (get s.leads i)) where
    for_handled : (from : ℕ) (m : Message) → instance_of_message m ≡ i → MessageFor from me m → OutcomeFor me (handled f me from s m)
    for_handled from (PreAccept j b d) e h = subst (λ k. OutcomeFor me (on_pre_accept k from b d (interference s.records k d.command) (record_in s k))) (sym e) (for_pre_accept f me low (record_in s i) ok from b d (interference s.records i d.command) h)
    for_handled from (PreAcceptOk j b a) e h = subst (λ k. OutcomeFor me (Ok (on_pre_accept_ok f k me from b a (record_in s k) (get s.leads k)))) (sym e) (for_pre_accept_ok f me low (record_in s i) ok from b a (get s.leads i))
    for_handled from (Accept j b d) e h = subst (λ k. OutcomeFor me (Ok (on_accept k from b d (record_in s k)))) (sym e) (for_accept f me low (record_in s i) ok from b d h)
    for_handled from (AcceptOk j b) e h = subst (λ k. OutcomeFor me (Ok (on_accept_ok f k me from b (record_in s k) (get s.leads k)))) (sym e) (for_accept_ok f me low (record_in s i) ok from b (get s.leads i))
    for_handled from (Commit j d) e h = subst (λ k. OutcomeFor me (Ok (on_commit k d (record_in s k)))) (sym e) (for_commit f me low (record_in s i) ok d h)
    for_handled from (Prepare j b) e h = subst (λ k. OutcomeFor me (Ok (on_prepare k from b (record_in s k)))) (sym e) (for_prepare f me low (record_in s i) ok from b h)
    for_handled from (PrepareOk j b v) e h = subst (λ k. OutcomeFor me (on_prepare_ok f k me from b v (interference s.records k) (record_in s k) (get s.leads k))) (sym e) (for_prepare_ok f me low (record_in s i) ok from b v (interference s.records i) (get s.leads i) h.0 h.1 led)
    for_handled from (Nack j b p) e h = record { entry = tt; led = tt; out = tt }

    abbrev pub ActFor : Result (ℕ × Change) Refusal → Type 0
    ActFor (Ok p) = ChangeFor me p.1
    ActFor (Err e) = Unit {0}

    for_at : (k : ℕ) (o : Outcome) → OutcomeFor me o → ActFor (at k o)
    for_at k (Ok ch) h = h
    for_at k (Err e) h = tt

    acts_for : (sent : List Sent) (e : Event) → ((m : Sent) → In m sent → MessageFor m.from m.to m.message) → IsThere sent e → is_for me e ≡ true → Serves q i me e → ActFor (acts f me s e)
    acts_for sent (Propose client request d seen named) each there mine h = absurd h
    acts_for sent (Handle m) each there mine h =
        for_at (instance_of_message m.sent.message) (handled f me m.sent.from s m.sent.message)
        (for_handled m.sent.from m.sent.message h (subst (λ k. MessageFor m.sent.from k m.sent.message) (eqb-true m.sent.to me mine) (each m.sent there)))
    acts_for sent (GiveUp j) each there mine h = absurd h
    acts_for sent (Recover j) each there mine h =
        for_at j (recover f j me (record_in s j) (cell_in s j).reported)
        (subst (λ k. OutcomeFor me (recover f k me (record_in s k) (cell_in s k).reported)) (sym h.1) (for_recover f me low (record_in s i) ok (cell_in s i).reported h.0 (let is = h.0 in omega arith)))
    acts_for sent (Execute root) each there mine h = absurd h

  -- Worlds.

  pub record CellFor (me : ℕ) (cell : Cell) : Type 0 where
    pub record_for : RecordFor me (record_of i cell)
    pub lead_for : LeadFor me cell.led

  pub record WorldFor (f : ℕ) (live : ℕ → Bool) (w : World) : Type 0 where
    pub states : (r : ℕ) → r < size f → live r ≡ true → CellFor r (cell_in (w.states r) i)
    pub sent : (s : Sent) → In s w.sent → MessageFor s.from s.to s.message

  newer_record : (me : ℕ) (old new : Option Record) → RecordFor me (record_or_fresh i old) → EntryFor me new → RecordFor me (record_or_fresh i (newer_entry new old))
  newer_record me old None ok h = ok
  newer_record me old (Some x) ok h = h

  newer_lead : (me : ℕ) (old : Option LedInstance) (new : Option (Option LedInstance)) → LeadFor me old → NewLeadFor me new → LeadFor me (newer new old)
  newer_lead me old None ok h = ok
  newer_lead me old (Some l) ok h = h

  applied_for : (me : ℕ) (cell : Cell) (ch : Change) → CellFor me cell → ChangeFor me ch → CellFor me (applied cell ch)
  applied_for me cell ch ok h = record { record_for = newer_record me cell.entry ch.entry ok.record_for h.entry; lead_for = newer_lead me cell.led ch.led ok.lead_for h.led }

  out_for : (r : ℕ) (out : List (ℕ × Message)) → AllSent (λ to m. MessageFor r to m) out → (s : Sent) → In s (sent_from r out) → MessageFor s.from s.to s.message
  out_for r [] all s there = absurd there
  out_for r (m ∷ ms) all s (inl e) = subst (λ (t : Sent). MessageFor t.from t.to t.message) e all.0
  out_for r (m ∷ ms) all s (inr there) = out_for r ms all.1 s there

  module _ (f : ℕ) (few : size f ≤ 256) (live : ℕ → Bool) (low : q < size f) where
    act_for : (w : World) (a : Act) → Happens f w a → live a.replica ≡ true → Serves q i a.replica a.event → WorldFor f live w → WorldFor f live (moved f w a)
    act_for w a p lives serve ok =
        let r : ℕ = a.replica in
        let s : State = w.states r in
        let here : CellFor r (cell_in s i) = ok.states r p.replica lives in
        let t = taken_of (acts f r s a.event) (p.step).taken in
        let of : (t.0).0 ≡ i = subst (λ o. IsOf i o) t.1 (served f q i r s a.event serve) in
        let did : ChangeFor r (t.0).1 = subst (λ o. ActFor f r few low s here.record_for here.lead_for o) t.1
        (acts_for f r few low s here.record_for here.lead_for w.sent a.event ok.sent p.there (unscreened f r a.event (p.step).unscreened).1 serve) in
        let m = moves f w a t.0 t.1 in
        let now : cell_in ((moved f w a).states r) i ≡ applied (cell_in s i) (t.0).1 = subst (λ k. cell_in ((moved f w a).states r) k ≡ applied (cell_in s k) (t.0).1) of m.here in
        record {
          states = λ k lt l'. elim (cases_eq k r) [
            | inl is ↦ subst (λ j. CellFor j (cell_in ((moved f w a).states j) i)) (sym is) (subst (λ u. CellFor r u) (sym now) (applied_for r (cell_in s i) (t.0).1 here did))
            | inr ne ↦ subst (λ u. CellFor k u) (sym (m.apart k i ne)) (ok.states k lt l')
          ];
          sent = λ x there. elim (in_cases x w.sent (sent_from r (t.0).1.out) (subst (λ z. In x z) m.sent there)) [ inl old ↦ ok.sent x old | inr new ↦ out_for r (t.0).1.out did.out x new ];
        }

    pub run_for : (acts : List Act) (w : World) → IsRun f w acts → AllServe live q i acts → WorldFor f live w → WorldFor f live (ends f w acts)
    run_for [] w run serve ok = ok
    run_for (a ∷ acts) w run serve ok = run_for acts (moved f w a) run.1 serve.2 (act_for w a run.0 serve.0 serve.1 ok)

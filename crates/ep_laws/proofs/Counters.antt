-- Whatever a round does, q knows in the end the counters that the live replicas have promised, by its own ballot or by what it has heard.
use Rattle.std.proofs.Common.{◌≡◌, ◌≢◌, ℕ, ◌+◌, ◌<◌, ◌≤◌, Bool, true, eqb, ltb, leb, Option, Some, None, is_some, Ok, Err, refl, sym, ◌∙◌, arith}
use Rattle.std.proofs.lemmas.Bool.{eq-eqb, ltb-false, not-true, false≢true}
use Rattle.ep_base.specs.Instances.{leader_of}
use Rattle.ep_base.specs.Quorums.{size}
use Rattle.ep_base.specs.Attributes.{join}
use Rattle.ep_base.specs.Commands.{Command, Noop}
use Rattle.ep_base.specs.declared.attrs.Attrs.{Attrs}
use Rattle.ep_base.specs.declared.decree.Decree.{Decree}
use Rattle.ep_base.specs.declared.message.Message.{Message}
use Rattle.ep_base.specs.declared.message.Message.TheVariants.{PreAccept, PreAcceptOk, Accept, AcceptOk, Commit, Prepare, PrepareOk, Nack}
use Rattle.ep_base.specs.declared.vote.Vote.{Vote}
use Rattle.ep_rules.specs.Answers.{Answers, answer, with_answer}
use Rattle.ep_rules.specs.Cells.{Change, nothing, answered, recorded, kept, is_committed, is_done_at, is_settled_at}
use Rattle.ep_rules.specs.Counting.{is_other}
use Rattle.ep_rules.specs.Phases.{Outcome, limited, accept_phase, first_phase, commit_phase, slow_path, fast_path, fast_answered, all_equal, others, count_pre_accept_ok, use_pre_accept_ok, on_pre_accept_ok, on_pre_accept, on_accept, on_commit, commit_own, use_accept_ok, on_accept_ok, is_usable}
use Rattle.ep_rules.specs.Recovery.{Choice, CommitIt, AcceptIt, AcceptFast, ProposeIt, ProposeNoop, choose, act_on, answered_all, count_prepare_ok, use_prepare_ok, on_prepare_ok, on_prepare}
use Rattle.ep_rules.specs.Steps.{Sent}
use Rattle.ep_rules.specs.declared.led_instance.LedInstance.{LedInstance}
use Rattle.ep_rules.specs.declared.led_instance.LedInstance.TheVariants.{Proposing, Accepting, Preparing}
use Rattle.ep_rules.specs.declared.record.Record.{Record}
use Rattle.ep_rules.proofs.Keeping.{AllSent, sent_to_those, split, newer}
use Rattle.ep_laws.proofs.AnyOrder.{from_q, to_q}

module _ (f : ℕ) (live : ℕ → Bool) (q i b : ℕ) where
  -- what q sends, and what others answer
  pub data Asking (m : Message) : Type 0 where
    ask_prepare : Prepare i b ≡ m → Asking m
    ask_pre_accept : (d : Decree) → PreAccept i b d ≡ m → Asking m
    ask_accept : (d : Decree) → Accept i b d ≡ m → Asking m
    report_commit : (d : Decree) → Commit i d ≡ m → Asking m

  pub data Reporting (m : Message) : Type 0 where
    report_prepare : (v : Option Vote) → PrepareOk i b v ≡ m → Reporting m
    report_pre_accept : (a : Attrs) → PreAcceptOk i b a ≡ m → Reporting m
    report_accept : AcceptOk i b ≡ m → Reporting m
    report_nack : (p : ℕ) → Nack i b p ≡ m → Reporting m

  pub data Spoke (s : Sent) : Type 0 where
    asks : (x : ℕ) (m : Message) → x ≢ q → Asking m → from_q f live q i b x m ≡ s → Spoke s
    reports : (x : ℕ) (m : Message) → x ≢ q → Reporting m → to_q f live q i b x m ≡ s → Spoke s

  -- A replica that q asks promises b at most, or what it has promised already.
  pub record PeerFine (r : Record) (ch : Change) : Type 0 where
    pub low : r.promised ≤ b → (newer ch.entry r).promised ≤ b
    pub high : b < r.promised → (newer ch.entry r).promised ≡ r.promised
    pub out : AllSent (λ to m. (to ≡ q) × Reporting m) ch.out

  peer_nothing : (r : Record) → PeerFine r nothing
  peer_nothing r = record { low = λ h. h; high = λ h. refl; out = tt }

  peer_nack : (r : Record) → PeerFine r (answered q (Nack i b r.promised))
  peer_nack r = record { low = λ h. h; high = λ h. refl; out = ((refl, report_nack r.promised refl), tt) }

  peer_recorded : (r y : Record) (m : Message) → r.promised ≤ b → y.promised ≡ b → Reporting m → PeerFine r (recorded y q m)
  peer_recorded r y m low at t = record { low = λ h. omega arith; high = λ h. absurd (omega arith); out = ((refl, t), tt) }

  pub peer_prepare : (r : Record) → PeerFine r (on_prepare i q b r)
  peer_prepare r =
      split (PeerFine r) (ltb b r.promised) _ _ (λ e. peer_nack r) (λ e.
      split (PeerFine r) (eqb b r.promised) _ _ (λ u. peer_nothing r) (λ u. peer_recorded r _ _ (ltb-false b r.promised e) refl (report_prepare r.vote refl)))

  pub peer_accept : (d : Decree) (r : Record) → PeerFine r (on_accept i q b d r)
  peer_accept d r =
      split (PeerFine r) (ltb b r.promised) _ _ (λ e. peer_nack r) (λ e.
      split (PeerFine r) (is_settled_at b r.vote) _ _ (λ u. peer_nothing r) (λ u. peer_recorded r _ _ (ltb-false b r.promised e) refl (report_accept refl)))

  abbrev pub PeerOk : Record → Outcome → Type 0
  PeerOk r (Ok ch) = PeerFine r ch
  PeerOk r (Err e) = Unit {0}

  pub peer_pre_accept : (d : Decree) (own : Attrs) (r : Record) → PeerOk r (on_pre_accept i q b d own r)
  peer_pre_accept d own r =
      split (PeerOk r) (ltb b r.promised) _ _ (λ e. peer_nack r) (λ e.
      split (PeerOk r) (is_done_at b r.vote) _ _ (λ u. peer_nothing r) (λ u.
      split (PeerOk r) (leb own.seq 1000000) _ _ (λ v. peer_recorded r _ _ (ltb-false b r.promised e) refl (report_pre_accept (join d.attrs own) refl)) (λ v. tt)))

  pub peer_commit : (d : Decree) (r : Record) → PeerFine r (on_commit i d r)
  peer_commit d r = split (PeerFine r) (is_committed r.vote) _ _ (λ e. peer_nothing r) (λ e. record { low = λ h. h; high = λ h. refl; out = tt })

  -- q keeps its ballot, and sends what is of it.
  pub record LeaderFine (r : Record) (ch : Change) : Type 0 where
    pub at : r.promised ≡ b → (newer ch.entry r).promised ≡ b
    pub reported : ch.reported ≡ None
    pub out : AllSent (λ to m. (to ≢ q) × Asking m) ch.out

  abbrev pub LeaderOk : Record → Outcome → Type 0
  LeaderOk r (Ok ch) = LeaderFine r ch
  LeaderOk r (Err e) = Unit {0}

  other_is : (k : ℕ) → is_other q k ≡ true → k ≢ q
  other_is k e is = absurd (false≢true (sym (not-true (eqb k q) e) ∙ eq-eqb k q is))

  module _ (r : Record) where
    leader_nothing : LeaderFine r nothing
    leader_nothing = record { at = λ h. h; reported = refl; out = tt }

    leader_kept : (l : LedInstance) → LeaderFine r (kept l)
    leader_kept l = record { at = λ h. h; reported = refl; out = tt }

    leader_accept : (d : Decree) → LeaderFine r (accept_phase f i q b d)
    leader_accept d = record { at = λ h. refl; reported = refl; out = sent_to_those _ (is_other q) (size f) (Accept i b d) (λ k lt e. (other_is k e, ask_accept d refl)) }

    leader_first : (s : ℕ) (d : Decree) → LeaderFine r (first_phase (is_other q) f i b s d)
    leader_first s d = record { at = λ h. refl; reported = refl; out = sent_to_those _ (is_other q) (size f) (PreAccept i b d) (λ k lt e. (other_is k e, ask_pre_accept d refl)) }

    leader_commit : (d : Decree) → LeaderFine r (commit_phase f i q d r)
    leader_commit d = record { at = λ h. h; reported = refl; out = sent_to_those _ (is_other q) (size f) (Commit i d) (λ k lt e. (other_is k e, report_commit d refl)) }

    leader_slow : (answers : Answers Attrs) (v : Option Vote) → LeaderFine r (slow_path f i q b answers v)
    leader_slow answers None = leader_nothing
    leader_slow answers (Some v) = leader_accept _

    leader_fast : (a : Attrs) (v : Option Vote) → LeaderFine r (fast_path f i q a r v)
    leader_fast a None = leader_nothing
    leader_fast a (Some v) = leader_commit _

    leader_count : (s : ℕ) (a : Attrs) (answers : Answers Attrs) → LeaderFine r (count_pre_accept_ok f i q b s a answers r)
    leader_count s a answers =
        split (LeaderFine r) (eqb b (leader_of i)) _ _
        (λ e. split (LeaderFine r) (fast_answered f (leader_of i) s answers) _ _
        (λ e. split (LeaderFine r) (all_equal f a answers) _ _ (λ e. leader_fast a r.vote) (λ e. leader_slow answers r.vote))
        (λ e. leader_kept (Proposing b s answers)))
        (λ e. split (LeaderFine r) (leb f (others f q answers)) _ _ (λ e. leader_slow answers r.vote) (λ e. leader_kept (Proposing b s answers)))

    pub leader_pre_accept_ok : (from : ℕ) (a : Attrs) (led : Option LedInstance) → LeaderFine r (on_pre_accept_ok f i q from b a r led)
    leader_pre_accept_ok from a None = leader_nothing
    leader_pre_accept_ok from a (Some (Accepting lb answers)) = leader_nothing
    leader_pre_accept_ok from a (Some (Preparing lb answers)) = leader_nothing
    leader_pre_accept_ok from a (Some (Proposing lb s answers)) =
        split (λ more. LeaderFine r (use_pre_accept_ok f i q b a r more)) (is_some (answer answers from)) _ _ (λ e. leader_nothing) (λ e.
        split (LeaderFine r) (is_usable b r lb) _ _ (λ u. leader_count s a (with_answer answers from a)) (λ u. leader_nothing))

    leader_own : (v : Option Vote) → LeaderFine r (commit_own f i q r v)
    leader_own None = leader_nothing
    leader_own (Some v) = leader_commit v.decree

    pub leader_accept_ok : (from : ℕ) (led : Option LedInstance) → LeaderFine r (on_accept_ok f i q from b r led)
    leader_accept_ok from None = leader_nothing
    leader_accept_ok from (Some (Proposing lb s answers)) = leader_nothing
    leader_accept_ok from (Some (Preparing lb answers)) = leader_nothing
    leader_accept_ok from (Some (Accepting lb answers)) =
        split (λ more. LeaderFine r (use_accept_ok f i q b r more)) (is_some (answer answers from)) _ _ (λ e. leader_nothing) (λ e.
        split (LeaderFine r) (is_usable b r lb) _ _
        (λ u. split (LeaderFine r) (leb f (others f q (with_answer answers from tt))) _ _ (λ m. leader_own r.vote) (λ m. leader_kept (Accepting b (with_answer answers from tt))))
        (λ u. leader_nothing))

    leader_limited : (a : Attrs) (ch : Change) → LeaderFine r ch → LeaderOk r (limited a ch)
    leader_limited a ch p = split (LeaderOk r) (leb a.seq 1000000) _ _ (λ e. p) (λ e. tt)

    leader_choice : (own : Command → Attrs) (c : Choice) → LeaderOk r (act_on f i q b own r c)
    leader_choice own (CommitIt d) = leader_commit d
    leader_choice own (AcceptIt d) = leader_accept d
    leader_choice own (AcceptFast d) = leader_accept d
    leader_choice own (ProposeIt c) = leader_limited (own c) _ (leader_first q (record { command = c; attrs = own c }))
    leader_choice own ProposeNoop = leader_limited (own Noop) _ (leader_first q (record { command = Noop; attrs = own Noop }))

    leader_count_prepare : (own : Command → Attrs) (answers : Answers (Option Vote)) → LeaderOk r (count_prepare_ok f i q b answers own r)
    leader_count_prepare own answers =
        split (LeaderOk r) (leb (f + 1) (answered_all f answers)) _ _ (λ m. leader_choice own (choose f (leader_of i) (λ k. answer answers k))) (λ m. leader_kept (Preparing b answers))

    pub leader_prepare_ok : (from : ℕ) (v : Option Vote) (own : Command → Attrs) (led : Option LedInstance) → LeaderOk r (on_prepare_ok f i q from b v own r led)
    leader_prepare_ok from v own None = leader_nothing
    leader_prepare_ok from v own (Some (Proposing lb s answers)) = leader_nothing
    leader_prepare_ok from v own (Some (Accepting lb answers)) = leader_nothing
    leader_prepare_ok from v own (Some (Preparing lb answers)) =
        split (λ more. LeaderOk r (use_prepare_ok f i q b own r more)) (is_some (answer answers from)) _ _ (λ e. leader_nothing) (λ e.
        split (LeaderOk r) (is_usable b r lb) _ _ (λ u. leader_count_prepare own (with_answer answers from v)) (λ u. leader_nothing))

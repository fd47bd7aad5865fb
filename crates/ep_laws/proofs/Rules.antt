-- What the rules come to in a recovery whose ballot nobody else has passed: each of the four answers, and what its leader makes of it.
use Rattle.std.proofs.Common.{◌≡◌, ℕ, ◌+◌, ◌<◌, ◌≤◌, Bool, true, false, cond, ◌&&◌, ◌||◌, eqb, ltb, leb, Option, Some, None, is_some, Ok, Err, refl, sym, ap, ◌∙◌, inl, inr, ◌⊎◌, arith}
use Rattle.std.proofs.lemmas.Bool.{and_from, or_from, eq-eqb, ne_eqb, not_from_false, le-ltb, lt-ltb, le-leb}
use Rattle.ep_base.specs.Attributes.{join}
use Rattle.ep_base.specs.Ballots.{ballot_of, highest_counter}
use Rattle.ep_base.specs.Instances.{leader_of}
use Rattle.ep_base.specs.Quorums.{size}
use Rattle.ep_base.specs.Commands.{Command, Noop}
use Rattle.ep_base.specs.declared.attrs.Attrs.{Attrs}
use Rattle.ep_base.specs.declared.decree.Decree.{Decree}
use Rattle.ep_base.specs.declared.message.Message.TheVariants.{PreAcceptOk, AcceptOk, PrepareOk, Nack}
use Rattle.ep_base.specs.declared.vote.VoteStatus.TheVariants.{PreAccepted, Accepted}
use Rattle.ep_base.specs.declared.vote.Vote.{Vote}
use Rattle.ep_rules.specs.Answers.{Answers, answer, with_answer}
use Rattle.ep_rules.specs.Cells.{Change, nothing, answered, recorded, kept, voted, voted_ballot, is_commit, is_committed, is_done_at, is_settled_at, AlreadyCommitted, BallotsExhausted, SeqExhausted, is_accept}
use Rattle.ep_rules.specs.Counting.{least, is_other}
use Rattle.ep_rules.specs.Phases.{Outcome, limited, first_phase, accept_phase, commit_phase, with_attrs, on_pre_accept, on_accept, is_usable, others, joined, slow_path, count_pre_accept_ok, use_pre_accept_ok, on_pre_accept_ok, commit_own, use_accept_ok, on_accept_ok, fast_answered, all_equal, fast_path}
use Rattle.ep_rules.specs.Recovery.{Choice, CommitIt, AcceptIt, AcceptFast, ProposeIt, ProposeNoop, votes, did_commit, did_accept_at, did_preaccept_at, is_fast_witness, top_ballot, with_vote_of, choose_at, choose, act_on, next_counter, prepare_phase, recover, on_prepare, answered_all, count_prepare_ok, use_prepare_ok, on_prepare_ok}
use Rattle.ep_rules.specs.declared.led_instance.LedInstance.{LedInstance}
use Rattle.ep_rules.specs.declared.led_instance.LedInstance.TheVariants.{Proposing, Accepting, Preparing}
use Rattle.ep_rules.specs.declared.record.Record.{Record}
use Rattle.ep_rules.proofs.Counting.{least_some, least_none}

pub not_below : (a b : ℕ) → b ≤ a → ltb a b ≡ false
not_below a b le = le-ltb a b le

pub usable_now : (b : ℕ) (r : Record) → r.promised ≡ b → is_committed r.vote ≡ false → is_usable b r b ≡ true
usable_now b r at unended = and_from _ _ (eq-eqb b b refl) (and_from _ _ (eq-eqb r.promised b at) (not_from_false _ unended))

-- a vote below b, and no commit
pub not_done : (i b : ℕ) (v : Option Vote) → is_committed v ≡ false → voted_ballot i v < b → is_done_at b v ≡ false
not_done i b None unended below = refl
not_done i b (Some v) unended below = or_from _ _ unended (ne_eqb v.ballot b (λ e. absurd (omega arith)))

pub done_settled : (b : ℕ) (v : Option Vote) → is_done_at b v ≡ false → is_settled_at b v ≡ false
done_settled b None e = refl
done_settled b (Some v) e = go (is_commit v.status) (eqb v.ballot b) e
  where
    accepts : (s : Bool) → (s && false) ≡ false
    accepts true = refl
    accepts false = refl

    go : (c t : Bool) → (c || t) ≡ false → (c || (is_accept v.status && t)) ≡ false
    go true t e = absurd (cc)
    go false true e = absurd (cc)
    go false false e = accepts (is_accept v.status)

-- Prepare.

pub prepare_answered : (i from b : ℕ) (r : Record) → r.promised < b → on_prepare i from b r ≡ recorded (record { promised = b; vote = r.vote }) from (PrepareOk i b r.vote)
prepare_answered i from b r above =
    let yes : Change = recorded (record { promised = b; vote = r.vote }) from (PrepareOk i b r.vote) in
    ap (λ t. cond t (answered from (Nack i b r.promised)) (cond (eqb b r.promised) nothing yes)) (not_below b r.promised (omega arith)) ∙
    ap (λ t. cond t nothing yes) (ne_eqb b r.promised (λ e. absurd (omega arith)))

pub prepare_refused : (i from b : ℕ) (r : Record) → b < r.promised → on_prepare i from b r ≡ answered from (Nack i b r.promised)
prepare_refused i from b r above =
    ap (λ t. cond t (answered from (Nack i b r.promised)) (cond (eqb b r.promised) nothing (recorded (record { promised = b; vote = r.vote }) from (PrepareOk i b r.vote)))) (lt-ltb b r.promised above)

module _ (f i q x b : ℕ) (v : Option Vote) (own : Command → Attrs) (r : Record) (led : Option LedInstance) (answers : Answers (Option Vote)) (leads : led ≡ Some (Preparing b answers)) (fresh : answer answers x ≡ None) (at : r.promised ≡ b) (unended : is_committed r.vote ≡ false) where
  abbrev more : Answers (Option Vote)
  more = with_answer answers x v

  prepare_counted : on_prepare_ok f i q x b v own r led ≡ count_prepare_ok f i q b more own r
  prepare_counted =
      ap (λ l. on_prepare_ok f i q x b v own r l) leads ∙
      ap (λ o. use_prepare_ok f i q b own r (cond (is_some o) None (Some (b, more)))) fresh ∙
      ap (λ t. cond t (count_prepare_ok f i q b more own r) (Ok nothing)) (usable_now b r at unended)

  pub prepare_waits : leb (f + 1) (answered_all f more) ≡ false → on_prepare_ok f i q x b v own r led ≡ Ok (kept (Preparing b more))
  prepare_waits e = prepare_counted ∙ ap (λ t. cond t (act_on f i q b own r (choose f (leader_of i) (λ k. answer more k))) (Ok (kept (Preparing b more)))) e

  pub prepare_chooses : leb (f + 1) (answered_all f more) ≡ true → on_prepare_ok f i q x b v own r led ≡ act_on f i q b own r (choose f (leader_of i) (λ k. answer more k))
  prepare_chooses e = prepare_counted ∙ ap (λ t. cond t (act_on f i q b own r (choose f (leader_of i) (λ k. answer more k))) (Ok (kept (Preparing b more)))) e

-- The choice.

pub data Acted (f i q b : ℕ) (r : Record) (o : Outcome) : Type 0 where
  commits : (d : Decree) → o ≡ Ok (commit_phase f i q d r) → Acted f i q b r o
  accepts : (d : Decree) → o ≡ Ok (accept_phase f i q b d) → Acted f i q b r o
  proposes : (d : Decree) → o ≡ Ok (first_phase (is_other q) f i b q d) → Acted f i q b r o

within_limit : (a : Attrs) (ch : Change) → a.seq ≤ 999999 → limited a ch ≡ Ok ch
within_limit a ch le = ap (λ t. cond t (Ok ch) (Err SeqExhausted)) (le-leb a.seq 1000000 (omega arith))

pub acted : (f i q b : ℕ) (own : Command → Attrs) (r : Record) → ((c : Command) → (own c).seq ≤ 999999) → (choice : Choice) → Acted f i q b r (act_on f i q b own r choice)
acted f i q b own r room (CommitIt d) = commits d refl
acted f i q b own r room (AcceptIt d) = accepts d refl
acted f i q b own r room (AcceptFast d) = accepts d refl
acted f i q b own r room (ProposeIt c) = proposes (record { command = c; attrs = own c }) (within_limit (own c) (first_phase (is_other q) f i b q (record { command = c; attrs = own c })) (room c))
acted f i q b own r room ProposeNoop = proposes (record { command = Noop; attrs = own Noop }) (within_limit (own Noop) (first_phase (is_other q) f i b q (record { command = Noop; attrs = own Noop })) (room Noop))

-- it commits, or nobody that answered has committed
abbrev pub ChoosesBy : ℕ → ℕ → (ℕ → Option (Option Vote)) → Type 0
ChoosesBy f l vote = ((d : Decree) × (choose f l vote ≡ CommitIt d)) ⊎ ((r : ℕ) → r < size f → votes did_commit (vote r) ≡ false)

committed_first : (o : Option (Option Vote)) (other : Choice) → votes did_commit o ≡ true → (d : Decree) × (with_vote_of o (λ x. CommitIt x) other ≡ CommitIt d)
committed_first None other e = absurd (cc)
committed_first (Some None) other e = absurd (cc)
committed_first (Some (Some v)) other e = (v.decree, refl)

choose_by : (f l : ℕ) (vote : ℕ → Option (Option Vote)) (rest : Choice) → choose f l vote ≡ choose_at vote (least (size f) (λ r. votes did_commit (vote r))) (λ x. CommitIt x) rest → (o : Option ℕ) → least (size f) (λ r. votes did_commit (vote r)) ≡ o → ChoosesBy f l vote
choose_by f l vote rest is None e = inr (λ r lt. least_none (size f) (λ r. votes did_commit (vote r)) e r lt)
choose_by f l vote rest is (Some k) e =
    let t = least_some (size f) (λ r. votes did_commit (vote r)) k e in
    let c = committed_first (vote k) rest t.1 in
    inl (c.0, is ∙ ap (λ o. choose_at vote o (λ x. CommitIt x) rest) e ∙ c.1)

pub chooses : (f l : ℕ) (vote : ℕ → Option (Option Vote)) → ChoosesBy f l vote
chooses f l vote =
    let top = top_ballot l (size f) vote in
    choose_by f l vote
    (choose_at vote (least (size f) (λ r. votes (did_accept_at top) (vote r))) (λ x. AcceptIt x)
    (choose_at vote (least (size f) (λ r. eqb top l && is_fast_witness f l vote r)) (λ x. AcceptFast x)
    (choose_at vote (least (size f) (λ r. votes (did_preaccept_at top) (vote r))) (λ x. ProposeIt x.command)
    ProposeNoop))) refl (least (size f) (λ r. votes did_commit (vote r))) refl

-- an answer's vote isn't committed, where that test fails of it
pub vote_open : (o : Option (Option Vote)) (v : Option Vote) → votes did_commit o ≡ false → o ≡ Some v → is_committed v ≡ false
vote_open o None e is = refl
vote_open o (Some v) e is = sym (ap (votes did_commit) is) ∙ e

-- PreAccept.

pub pre_accept_answered : (i from b : ℕ) (d : Decree) (own : Attrs) (r : Record) → r.promised ≡ b → is_done_at b r.vote ≡ false → own.seq ≤ 999999 →
    on_pre_accept i from b d own r ≡ Ok (recorded (voted b PreAccepted (with_attrs d (join d.attrs own))) from (PreAcceptOk i b (join d.attrs own)))
pre_accept_answered i from b d own r at undone room =
    let yes : Change = recorded (voted b PreAccepted (with_attrs d (join d.attrs own))) from (PreAcceptOk i b (join d.attrs own)) in
    ap (λ t. cond t (Ok (answered from (Nack i b r.promised))) (cond (is_done_at b r.vote) (Ok nothing) (limited own yes))) (not_below b r.promised (omega arith)) ∙
    ap (λ t. cond t (Ok nothing) (limited own yes)) undone ∙ within_limit own yes room

module _ (f i q x b s : ℕ) (a : Attrs) (r : Record) (led : Option LedInstance) (answers : Answers Attrs) (leads : led ≡ Some (Proposing b s answers)) (fresh : answer answers x ≡ None) (at : r.promised ≡ b) (unended : is_committed r.vote ≡ false) (above : leader_of i < b) where
  abbrev more_attrs : Answers Attrs
  more_attrs = with_answer answers x a

  pre_accept_counted : on_pre_accept_ok f i q x b a r led ≡ cond (leb f (others f q more_attrs)) (slow_path f i q b more_attrs r.vote) (kept (Proposing b s more_attrs))
  pre_accept_counted =
      ap (λ l. on_pre_accept_ok f i q x b a r l) leads ∙
      ap (λ o. use_pre_accept_ok f i q b a r (cond (is_some o) None (Some (b, s, more_attrs)))) fresh ∙
      ap (λ t. cond t (count_pre_accept_ok f i q b s a more_attrs r) nothing) (usable_now b r at unended) ∙
      ap (λ t. cond t (cond (fast_answered f (leader_of i) s more_attrs) (cond (all_equal f a more_attrs) (fast_path f i q a r r.vote) (slow_path f i q b more_attrs r.vote)) (kept (Proposing b s more_attrs)))
      (cond (leb f (others f q more_attrs)) (slow_path f i q b more_attrs r.vote) (kept (Proposing b s more_attrs)))) (ne_eqb b (leader_of i) (λ e. absurd (omega arith)))

  pub pre_accept_waits : leb f (others f q more_attrs) ≡ false → on_pre_accept_ok f i q x b a r led ≡ kept (Proposing b s more_attrs)
  pre_accept_waits e = pre_accept_counted ∙ ap (λ t. cond t (slow_path f i q b more_attrs r.vote) (kept (Proposing b s more_attrs))) e

  pub pre_accept_accepts : leb f (others f q more_attrs) ≡ true → (v : Vote) → r.vote ≡ Some v → on_pre_accept_ok f i q x b a r led ≡ accept_phase f i q b (joined f more_attrs v.decree)
  pre_accept_accepts e v is = pre_accept_counted ∙ ap (λ t. cond t (slow_path f i q b more_attrs r.vote) (kept (Proposing b s more_attrs))) e ∙ ap (λ o. slow_path f i q b more_attrs o) is

-- Accept.

pub accept_answered : (i from b : ℕ) (d : Decree) (r : Record) → r.promised ≡ b → is_settled_at b r.vote ≡ false → on_accept i from b d r ≡ recorded (voted b Accepted d) from (AcceptOk i b)
accept_answered i from b d r at unsettled =
    let yes : Change = recorded (voted b Accepted d) from (AcceptOk i b) in
    ap (λ t. cond t (answered from (Nack i b r.promised)) (cond (is_settled_at b r.vote) nothing yes)) (not_below b r.promised (omega arith)) ∙ ap (λ t. cond t nothing yes) unsettled

module _ (f i q x b : ℕ) (r : Record) (led : Option LedInstance) (answers : Answers (Unit {0})) (leads : led ≡ Some (Accepting b answers)) (fresh : answer answers x ≡ None) (at : r.promised ≡ b) (unended : is_committed r.vote ≡ false) where
  abbrev more_units : Answers (Unit {0})
  more_units = with_answer answers x tt

  accept_counted : on_accept_ok f i q x b r led ≡ cond (leb f (others f q more_units)) (commit_own f i q r r.vote) (kept (Accepting b more_units))
  accept_counted =
      ap (λ l. on_accept_ok f i q x b r l) leads ∙
      ap (λ o. use_accept_ok f i q b r (cond (is_some o) None (Some (b, more_units)))) fresh ∙
      ap (λ t. cond t (cond (leb f (others f q more_units)) (commit_own f i q r r.vote) (kept (Accepting b more_units))) nothing) (usable_now b r at unended)

  pub accept_waits : leb f (others f q more_units) ≡ false → on_accept_ok f i q x b r led ≡ kept (Accepting b more_units)
  accept_waits e = accept_counted ∙ ap (λ t. cond t (commit_own f i q r r.vote) (kept (Accepting b more_units))) e

  pub accept_commits : leb f (others f q more_units) ≡ true → (v : Vote) → r.vote ≡ Some v → on_accept_ok f i q x b r led ≡ commit_phase f i q v.decree r
  accept_commits e v is = accept_counted ∙ ap (λ t. cond t (commit_own f i q r r.vote) (kept (Accepting b more_units))) e ∙ ap (λ o. commit_own f i q r o) is

-- Recover.

pub recovers_at : (f i q : ℕ) (r : Record) (reported : ℕ) → is_committed r.vote ≡ false → next_counter r reported ≤ highest_counter → recover f i q r reported ≡ Ok (prepare_phase f i q (ballot_of (next_counter r reported) q) r)
recovers_at f i q r reported unended room =
    let yes : Outcome = cond (leb (next_counter r reported) highest_counter) (Ok (prepare_phase f i q (ballot_of (next_counter r reported) q) r)) (Err BallotsExhausted) in
    ap (λ t. cond t (Err AlreadyCommitted) yes) unended ∙ ap (λ t. cond t (Ok (prepare_phase f i q (ballot_of (next_counter r reported) q) r)) (Err BallotsExhausted)) (le-leb (next_counter r reported) highest_counter room)

-- In any order: what else may come of a message.

pub prepare_idle : (i from b : ℕ) (r : Record) → r.promised ≡ b → on_prepare i from b r ≡ nothing
prepare_idle i from b r at =
    let yes : Change = recorded (record { promised = b; vote = r.vote }) from (PrepareOk i b r.vote) in
    ap (λ t. cond t (answered from (Nack i b r.promised)) (cond (eqb b r.promised) nothing yes)) (not_below b r.promised (omega arith)) ∙ ap (λ t. cond t nothing yes) (eq-eqb b r.promised (sym at))

limited_is : (a : Attrs) (x ch : Change) → limited a x ≡ Ok ch → x ≡ ch
limited_is a x ch e = go (leb a.seq 1000000) e
  where
    go : (t : Bool) → cond t (Ok x) (Err SeqExhausted) ≡ Ok ch → x ≡ ch
    go true e = cc
    go false e = absurd (cc)

pub pre_accept_cases : (i from b : ℕ) (d : Decree) (own : Attrs) (r : Record) (ch : Change) → r.promised ≤ b → on_pre_accept i from b d own r ≡ Ok ch →
    ((is_done_at b r.vote ≡ true) × (ch ≡ nothing)) ⊎ ((is_done_at b r.vote ≡ false) × (ch ≡ recorded (voted b PreAccepted (with_attrs d (join d.attrs own))) from (PreAcceptOk i b (join d.attrs own))))
pre_accept_cases i from b d own r ch low e =
    let yes : Change = recorded (voted b PreAccepted (with_attrs d (join d.attrs own))) from (PreAcceptOk i b (join d.attrs own)) in
    go (is_done_at b r.vote) refl (sym (ap (λ t. cond t (Ok (answered from (Nack i b r.promised))) (cond (is_done_at b r.vote) (Ok nothing) (limited own yes))) (not_below b r.promised low)) ∙ e)
  where
    go : (t : Bool) → is_done_at b r.vote ≡ t → cond t (Ok nothing) (limited own (recorded (voted b PreAccepted (with_attrs d (join d.attrs own))) from (PreAcceptOk i b (join d.attrs own)))) ≡ Ok ch →
        ((is_done_at b r.vote ≡ true) × (ch ≡ nothing)) ⊎ ((is_done_at b r.vote ≡ false) × (ch ≡ recorded (voted b PreAccepted (with_attrs d (join d.attrs own))) from (PreAcceptOk i b (join d.attrs own))))
    go true is e = inl (is, (cc))
    go false is e = inr (is, sym (limited_is own _ ch e))

pub accept_cases : (i from b : ℕ) (d : Decree) (r : Record) → r.promised ≤ b → ((is_settled_at b r.vote ≡ true) × (on_accept i from b d r ≡ nothing)) ⊎ ((is_settled_at b r.vote ≡ false) × (on_accept i from b d r ≡ recorded (voted b Accepted d) from (AcceptOk i b)))
accept_cases i from b d r low =
    let yes : Change = recorded (voted b Accepted d) from (AcceptOk i b) in
    let first : on_accept i from b d r ≡ cond (is_settled_at b r.vote) nothing yes = ap (λ t. cond t (answered from (Nack i b r.promised)) (cond (is_settled_at b r.vote) nothing yes)) (not_below b r.promised low) in
    go (is_settled_at b r.vote) refl first
  where
    go : (t : Bool) → is_settled_at b r.vote ≡ t → on_accept i from b d r ≡ cond t nothing (recorded (voted b Accepted d) from (AcceptOk i b)) →
        ((is_settled_at b r.vote ≡ true) × (on_accept i from b d r ≡ nothing)) ⊎ ((is_settled_at b r.vote ≡ false) × (on_accept i from b d r ≡ recorded (voted b Accepted d) from (AcceptOk i b)))
    go true is e = inl (is, e)
    go false is e = inr (is, e)

-- an answer that came before, or that is for another phase
pub prepare_known : (f i q x b : ℕ) (v u : Option Vote) (own : Command → Attrs) (r : Record) (led : Option LedInstance) (answers : Answers (Option Vote)) → led ≡ Some (Preparing b answers) → answer answers x ≡ Some u → on_prepare_ok f i q x b v own r led ≡ Ok nothing
prepare_known f i q x b v u own r led answers leads known =
    ap (λ l. on_prepare_ok f i q x b v own r l) leads ∙ ap (λ o. use_prepare_ok f i q b own r (cond (is_some o) None (Some (b, with_answer answers x v)))) known

pub pre_accept_known : (f i q x b s : ℕ) (a u : Attrs) (r : Record) (led : Option LedInstance) (answers : Answers Attrs) → led ≡ Some (Proposing b s answers) → answer answers x ≡ Some u → on_pre_accept_ok f i q x b a r led ≡ nothing
pre_accept_known f i q x b s a u r led answers leads known =
    ap (λ l. on_pre_accept_ok f i q x b a r l) leads ∙ ap (λ o. use_pre_accept_ok f i q b a r (cond (is_some o) None (Some (b, s, with_answer answers x a)))) known

pub accept_known : (f i q x b : ℕ) (u : Unit {0}) (r : Record) (led : Option LedInstance) (answers : Answers (Unit {0})) → led ≡ Some (Accepting b answers) → answer answers x ≡ Some u → on_accept_ok f i q x b r led ≡ nothing
accept_known f i q x b u r led answers leads known =
    ap (λ l. on_accept_ok f i q x b r l) leads ∙ ap (λ o. use_accept_ok f i q b r (cond (is_some o) None (Some (b, with_answer answers x tt)))) known

-- what a choice that was taken changes
pub data Chose (f i q b : ℕ) (r : Record) (ch : Change) : Type 0 where
  chose_commit : (d : Decree) → ch ≡ commit_phase f i q d r → Chose f i q b r ch
  chose_accept : (d : Decree) → ch ≡ accept_phase f i q b d → Chose f i q b r ch
  chose_propose : (d : Decree) → ch ≡ first_phase (is_other q) f i b q d → Chose f i q b r ch

pub chose : (f i q b : ℕ) (own : Command → Attrs) (r : Record) (ch : Change) (choice : Choice) → act_on f i q b own r choice ≡ Ok ch → Chose f i q b r ch
chose f i q b own r ch (CommitIt d) e = chose_commit d (cc)
chose f i q b own r ch (AcceptIt d) e = chose_accept d (cc)
chose f i q b own r ch (AcceptFast d) e = chose_accept d (cc)
chose f i q b own r ch (ProposeIt c) e = chose_propose (record { command = c; attrs = own c }) (sym (limited_is (own c) _ ch e))
chose f i q b own r ch ProposeNoop e = chose_propose (record { command = Noop; attrs = own Noop }) (sym (limited_is (own Noop) _ ch e))

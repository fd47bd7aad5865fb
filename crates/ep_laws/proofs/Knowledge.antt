-- What the rules keep of attributes: a property that joins have, and what the interference set gives, stays with all that is recorded, kept and sent.
use Rattle.std.proofs.Common.{◌≡◌, ℕ, zero, suc, ◌+◌, Bool, ◌&&◌, eqb, ltb, leb, Option, Some, None, is_some, Ok, Err, [], refl, subst, inl, inr}
use Rattle.ep_base.specs.Attributes.{join}
use Rattle.ep_base.specs.Ballots.{ballot_of, highest_counter}
use Rattle.ep_base.specs.Commands.{Command, Noop}
use Rattle.ep_base.specs.Instances.{leader_of}
use Rattle.ep_base.specs.Quorums.{size}
use Rattle.ep_base.specs.declared.attrs.Attrs.{Attrs}
use Rattle.ep_base.specs.declared.decree.Decree.{Decree}
use Rattle.ep_base.specs.declared.message.Message.{Message}
use Rattle.ep_base.specs.declared.message.Message.TheVariants.{PreAccept, PreAcceptOk, Accept, AcceptOk, Commit, Prepare, PrepareOk, Nack}
use Rattle.ep_base.specs.declared.vote.VoteStatus.TheVariants.{PreAccepted, Accepted}
use Rattle.ep_base.specs.declared.vote.Vote.{Vote}
use Rattle.ep_rules.specs.Answers.{Answers, answer, with_answer}
use Rattle.ep_rules.specs.Cells.{Change, nothing, answered, recorded, kept, voted, is_committed, is_done_at, is_settled_at}
use Rattle.ep_rules.specs.Counting.{least, is_other}
use Rattle.ep_rules.specs.Phases.{Outcome, limited, first_phase, accept_phase, commit_phase, with_attrs, on_pre_accept, on_accept, on_commit, is_usable, others, fast_answered, all_equal, join_some, join_all, joined, slow_path, fast_path, count_pre_accept_ok, use_pre_accept_ok, on_pre_accept_ok, commit_own, use_accept_ok, on_accept_ok}
use Rattle.ep_rules.specs.Recovery.{Choice, CommitIt, AcceptIt, AcceptFast, ProposeIt, ProposeNoop, votes, did_commit, did_accept_at, did_preaccept_at, is_fast_witness, top_ballot, with_vote_of, choose_at, choose, act_on, next_counter, recover, on_prepare, answered_all, count_prepare_ok, use_prepare_ok, on_prepare_ok}
use Rattle.ep_rules.specs.declared.led_instance.LedInstance.{LedInstance}
use Rattle.ep_rules.specs.declared.led_instance.LedInstance.TheVariants.{Proposing, Accepting, Preparing}
use Rattle.ep_rules.specs.declared.record.Record.{Record}
use Rattle.ep_rules.proofs.Keeping.{AllSent, sent_to_those, split}
use Rattle.ep_rules.proofs.Lookups.{answer_back}
use Rattle.ep_laws.specs.Known.{VoteHas, LedHas}

abbrev pub LeadHas : (Attrs → Type 0) → Option LedInstance → Type 0
LeadHas P None = Unit {0}
LeadHas P (Some l) = LedHas P l

abbrev pub NewLeadHas : (Attrs → Type 0) → Option (Option LedInstance) → Type 0
NewLeadHas P None = Unit {0}
NewLeadHas P (Some l) = LeadHas P l

abbrev pub EntryHas : (Attrs → Type 0) → Option Record → Type 0
EntryHas P None = Unit {0}
EntryHas P (Some x) = VoteHas P x.vote

abbrev pub MessageHas : (Attrs → Type 0) → Message → Type 0
MessageHas P (PreAccept i b x) = P x.attrs
MessageHas P (PreAcceptOk i b a) = P a
MessageHas P (Accept i b x) = P x.attrs
MessageHas P (AcceptOk i b) = Unit {0}
MessageHas P (Commit i x) = P x.attrs
MessageHas P (Prepare i b) = Unit {0}
MessageHas P (PrepareOk i b v) = VoteHas P v
MessageHas P (Nack i b p) = Unit {0}

pub record ChangeHas (P : Attrs → Type 0) (ch : Change) : Type 0 where
  pub entry : EntryHas P ch.entry
  pub led : NewLeadHas P ch.led
  pub out : AllSent (λ to m. MessageHas P m) ch.out

abbrev pub OutcomeHas : (Attrs → Type 0) → Outcome → Type 0
OutcomeHas P (Ok ch) = ChangeHas P ch
OutcomeHas P (Err e) = Unit {0}

abbrev AnswersHave : (Attrs → Type 0) → Answers Attrs → Type 0
AnswersHave P answers = (k : ℕ) (a : Attrs) → answer answers k ≡ Some a → P a

abbrev VotesHave : (Attrs → Type 0) → Answers (Option Vote) → Type 0
VotesHave P answers = (k : ℕ) (v : Option Vote) → answer answers k ≡ Some v → VoteHas P v

more_answers : (P : Attrs → Type 0) (answers : Answers Attrs) (from : ℕ) (a : Attrs) → AnswersHave P answers → P a → AnswersHave P (with_answer answers from a)
more_answers P answers from a each w k b e = elim (answer_back answers from a k b e) [ inl old ↦ each k b old | inr t ↦ subst P t.1 w ]

more_votes : (P : Attrs → Type 0) (answers : Answers (Option Vote)) (from : ℕ) (v : Option Vote) → VotesHave P answers → VoteHas P v → VotesHave P (with_answer answers from v)
more_votes P answers from v each w k u e = elim (answer_back answers from v k u e) [ inl old ↦ each k u old | inr t ↦ subst (λ c. VoteHas P c) t.1 w ]

-- The choice.

abbrev ChoiceHas : (Attrs → Type 0) → Choice → Type 0
ChoiceHas P (CommitIt x) = P x.attrs
ChoiceHas P (AcceptIt x) = P x.attrs
ChoiceHas P (AcceptFast x) = P x.attrs
ChoiceHas P (ProposeIt c) = Unit {0}
ChoiceHas P ProposeNoop = Unit {0}

vote_of_has : (P : Attrs → Type 0) (o : Option (Option Vote)) (chosen : Decree → Choice) (other : Choice) → ((v : Option Vote) → o ≡ Some v → VoteHas P v) → ((x : Decree) → P x.attrs → ChoiceHas P (chosen x)) → ChoiceHas P other → ChoiceHas P (with_vote_of o chosen other)
vote_of_has P None chosen other h c p = p
vote_of_has P (Some None) chosen other h c p = p
vote_of_has P (Some (Some v)) chosen other h c p = c v.decree (h (Some v) refl)

choose_at_has : (P : Attrs → Type 0) (vote : ℕ → Option (Option Vote)) (o : Option ℕ) (chosen : Decree → Choice) (other : Choice) → ((k : ℕ) (v : Option Vote) → vote k ≡ Some v → VoteHas P v) → ((x : Decree) → P x.attrs → ChoiceHas P (chosen x)) → ChoiceHas P other → ChoiceHas P (choose_at vote o chosen other)
choose_at_has P vote None chosen other h c p = p
choose_at_has P vote (Some r) chosen other h c p = vote_of_has P (vote r) chosen other (h r) c p

choose_has : (P : Attrs → Type 0) (f l : ℕ) (vote : ℕ → Option (Option Vote)) → ((k : ℕ) (v : Option Vote) → vote k ≡ Some v → VoteHas P v) → ChoiceHas P (choose f l vote)
choose_has P f l vote h =
    let top = top_ballot l (size f) vote in
    choose_at_has P vote (least (size f) (λ r. votes did_commit (vote r))) (λ x. CommitIt x) _ h (λ x w. w)
    (choose_at_has P vote (least (size f) (λ r. votes (did_accept_at top) (vote r))) (λ x. AcceptIt x) _ h (λ x w. w)
    (choose_at_has P vote (least (size f) (λ r. eqb top l && is_fast_witness f l vote r)) (λ x. AcceptFast x) _ h (λ x w. w)
    (choose_at_has P vote (least (size f) (λ r. votes (did_preaccept_at top) (vote r))) (λ x. ProposeIt x.command) _ h (λ x w. tt) tt)))

-- The rules.
module _ (P : Attrs → Type 0) (joins : (a b : Attrs) → P a → P b → P (join a b)) (f i me : ℕ) (x : Record) (ok : VoteHas P x.vote) where
  join_all_has : (k : ℕ) (answers : Answers Attrs) (a : Attrs) → AnswersHave P answers → P a → P (join_all k answers a)
  join_all_has zero answers a each w = w
  join_all_has (suc k) answers a each w = go (answer answers k) refl (join_all_has k answers a each w)
    where
      go : (o : Option Attrs) → answer answers k ≡ o → P (join_all k answers a) → P (join_some o (join_all k answers a))
      go None e rec = rec
      go (Some b) e rec = joins b (join_all k answers a) (each k b e) rec

  has_nothing : ChangeHas P nothing
  has_nothing = record { entry = tt; led = tt; out = tt }

  has_answered : (from : ℕ) (m : Message) → MessageHas P m → ChangeHas P (answered from m)
  has_answered from m w = record { entry = tt; led = tt; out = (w, tt) }

  has_recorded : (y : Record) (from : ℕ) (m : Message) → VoteHas P y.vote → MessageHas P m → ChangeHas P (recorded y from m)
  has_recorded y from m r w = record { entry = r; led = tt; out = (w, tt) }

  has_kept : (led : LedInstance) → LedHas P led → ChangeHas P (kept led)
  has_kept led l = record { entry = tt; led = l; out = tt }

  has_first_phase : (asked : ℕ → Bool) (b s : ℕ) (d : Decree) → P d.attrs → ChangeHas P (first_phase asked f i b s d)
  has_first_phase asked b s d w = record { entry = w; led = λ k a e. absurd (cc); out = sent_to_those _ asked (size f) (PreAccept i b d) (λ k lt e. w) }

  has_accept_phase : (b : ℕ) (d : Decree) → P d.attrs → ChangeHas P (accept_phase f i me b d)
  has_accept_phase b d w = record { entry = w; led = tt; out = sent_to_those _ (is_other me) (size f) (Accept i b d) (λ k lt e. w) }

  has_commit_phase : (d : Decree) → P d.attrs → ChangeHas P (commit_phase f i me d x)
  has_commit_phase d w = record { entry = w; led = tt; out = sent_to_those _ (is_other me) (size f) (Commit i d) (λ k lt e. w) }

  has_limited : (a : Attrs) (ch : Change) → ChangeHas P ch → OutcomeHas P (limited a ch)
  has_limited a ch p = split (OutcomeHas P) (leb a.seq 1000000) _ _ (λ e. p) (λ e. tt)

  -- The events.

  pub has_pre_accept : (from b : ℕ) (d : Decree) (own : Attrs) → P d.attrs → P own → OutcomeHas P (on_pre_accept i from b d own x)
  has_pre_accept from b d own w v =
      let both : P (join d.attrs own) = joins d.attrs own w v in
      split (OutcomeHas P) (ltb b x.promised) _ _ (λ e. has_answered from (Nack i b x.promised) tt) (λ e.
      split (OutcomeHas P) (is_done_at b x.vote) _ _ (λ u. has_nothing) (λ u.
      has_limited own _ (has_recorded (voted b PreAccepted (with_attrs d (join d.attrs own))) from _ both both)))

  pub has_accept : (from b : ℕ) (d : Decree) → P d.attrs → ChangeHas P (on_accept i from b d x)
  has_accept from b d w =
      split (ChangeHas P) (ltb b x.promised) _ _ (λ e. has_answered from (Nack i b x.promised) tt) (λ e.
      split (ChangeHas P) (is_settled_at b x.vote) _ _ (λ u. has_nothing) (λ u.
      has_recorded (voted b Accepted d) from _ w tt))

  pub has_commit : (d : Decree) → P d.attrs → ChangeHas P (on_commit i d x)
  has_commit d w = split (ChangeHas P) (is_committed x.vote) _ _ (λ e. has_nothing) (λ e. record { entry = w; led = tt; out = tt })

  has_slow : (b : ℕ) (answers : Answers Attrs) → AnswersHave P answers → (v : Option Vote) → VoteHas P v → ChangeHas P (slow_path f i me b answers v)
  has_slow b answers each None w = has_nothing
  has_slow b answers each (Some v) w = has_accept_phase b (joined f answers v.decree) (join_all_has (size f) answers v.decree.attrs each w)

  has_fast : (a : Attrs) → P a → (v : Option Vote) → ChangeHas P (fast_path f i me a x v)
  has_fast a w None = has_nothing
  has_fast a w (Some v) = has_commit_phase (with_attrs v.decree a) w

  has_count_pre_accept_ok : (b s : ℕ) (a : Attrs) (answers : Answers Attrs) → P a → AnswersHave P answers → ChangeHas P (count_pre_accept_ok f i me b s a answers x)
  has_count_pre_accept_ok b s a answers w each =
      split (ChangeHas P) (eqb b (leader_of i)) _ _
      (λ e. split (ChangeHas P) (fast_answered f (leader_of i) s answers) _ _
      (λ e. split (ChangeHas P) (all_equal f a answers) _ _ (λ e. has_fast a w x.vote) (λ e. has_slow b answers each x.vote ok))
      (λ e. has_kept (Proposing b s answers) each))
      (λ e. split (ChangeHas P) (leb f (others f me answers)) _ _ (λ e. has_slow b answers each x.vote ok) (λ e. has_kept (Proposing b s answers) each))

  pub has_pre_accept_ok : (from b : ℕ) (a : Attrs) (led : Option LedInstance) → P a → LeadHas P led → ChangeHas P (on_pre_accept_ok f i me from b a x led)
  has_pre_accept_ok from b a None w l = has_nothing
  has_pre_accept_ok from b a (Some (Accepting lb answers)) w l = has_nothing
  has_pre_accept_ok from b a (Some (Preparing lb answers)) w l = has_nothing
  has_pre_accept_ok from b a (Some (Proposing lb s answers)) w l =
      split (λ more. ChangeHas P (use_pre_accept_ok f i me b a x more)) (is_some (answer answers from)) _ _ (λ e. has_nothing) (λ e.
      split (ChangeHas P) (is_usable b x lb) _ _ (λ u. has_count_pre_accept_ok b s a (with_answer answers from a) w (more_answers P answers from a l w)) (λ u. has_nothing))

  has_commit_own : (v : Option Vote) → VoteHas P v → ChangeHas P (commit_own f i me x v)
  has_commit_own None w = has_nothing
  has_commit_own (Some v) w = has_commit_phase v.decree w

  pub has_accept_ok : (from b : ℕ) (led : Option LedInstance) → ChangeHas P (on_accept_ok f i me from b x led)
  has_accept_ok from b None = has_nothing
  has_accept_ok from b (Some (Proposing lb s answers)) = has_nothing
  has_accept_ok from b (Some (Preparing lb answers)) = has_nothing
  has_accept_ok from b (Some (Accepting lb answers)) =
      split (λ more. ChangeHas P (use_accept_ok f i me b x more)) (is_some (answer answers from)) _ _ (λ e. has_nothing) (λ e.
      split (ChangeHas P) (is_usable b x lb) _ _
      (λ u. split (ChangeHas P) (leb f (others f me (with_answer answers from tt))) _ _ (λ m. has_commit_own x.vote ok) (λ m. has_kept (Accepting b (with_answer answers from tt)) tt))
      (λ u. has_nothing))

  pub has_recover : (reported : ℕ) → OutcomeHas P (recover f i me x reported)
  has_recover reported =
      let b : ℕ = ballot_of (next_counter x reported) me in
      split (OutcomeHas P) (is_committed x.vote) _ _ (λ e. tt) (λ e.
      split (OutcomeHas P) (leb (next_counter x reported) highest_counter) _ _
      (λ u. record {
        entry = ok;
        led = λ k v e. elim (answer_back [] me x.vote k v e) [ inl o ↦ absurd (cc) | inr t ↦ subst (λ w. VoteHas P w) t.1 ok ];
        out = sent_to_those _ (is_other me) (size f) (Prepare i b) (λ k lt e. tt);
      })
      (λ u. tt))

  pub has_prepare : (from b : ℕ) → ChangeHas P (on_prepare i from b x)
  has_prepare from b =
      split (ChangeHas P) (ltb b x.promised) _ _ (λ e. has_answered from (Nack i b x.promised) tt) (λ e.
      split (ChangeHas P) (eqb b x.promised) _ _ (λ u. has_nothing) (λ u.
      has_recorded (record { promised = b; vote = x.vote }) from _ ok ok))

  module _ (own : Command → Attrs) (owns : (c : Command) → P (own c)) where
    has_choice : (b : ℕ) (ch : Choice) → ChoiceHas P ch → OutcomeHas P (act_on f i me b own x ch)
    has_choice b (CommitIt d) p = has_commit_phase d p
    has_choice b (AcceptIt d) p = has_accept_phase b d p
    has_choice b (AcceptFast d) p = has_accept_phase b d p
    has_choice b (ProposeIt c) p = has_limited (own c) _ (has_first_phase (is_other me) b me (record { command = c; attrs = own c }) (owns c))
    has_choice b ProposeNoop p = has_limited (own Noop) _ (has_first_phase (is_other me) b me (record { command = Noop; attrs = own Noop }) (owns Noop))

    has_count_prepare_ok : (b : ℕ) (answers : Answers (Option Vote)) → VotesHave P answers → OutcomeHas P (count_prepare_ok f i me b answers own x)
    has_count_prepare_ok b answers each =
        split (OutcomeHas P) (leb (f + 1) (answered_all f answers)) _ _
        (λ m. has_choice b (choose f (leader_of i) (λ q. answer answers q)) (choose_has P f (leader_of i) (λ q. answer answers q) each))
        (λ m. has_kept (Preparing b answers) each)

    pub has_prepare_ok : (from b : ℕ) (v : Option Vote) (led : Option LedInstance) → VoteHas P v → LeadHas P led → OutcomeHas P (on_prepare_ok f i me from b v own x led)
    has_prepare_ok from b v None w l = has_nothing
    has_prepare_ok from b v (Some (Proposing lb s answers)) w l = has_nothing
    has_prepare_ok from b v (Some (Accepting lb answers)) w l = has_nothing
    has_prepare_ok from b v (Some (Preparing lb answers)) w l =
        split (λ more. OutcomeHas P (use_prepare_ok f i me b own x more)) (is_some (answer answers from)) _ _ (λ e. has_nothing) (λ e.
        split (OutcomeHas P) (is_usable b x lb) _ _ (λ u. has_count_prepare_ok b (with_answer answers from v) (more_votes P answers from v l w)) (λ u. has_nothing))

-- What every replica's state keeps to: whatever it names is of the cluster, and it has promised what it voted at. So each message that it sends can be handled.
use Rattle.std.proofs.Common.{◌≡◌, ℕ, zero, suc, ◌+◌, ◌<◌, ◌≤◌, Bool, true, ◌&&◌, eqb, ltb, leb, Option, Some, None, is_some, Result, Ok, Err, Ordering, Less, Equal, Greater, List, [], ◌∷◌, ◌++◌, length, refl, sym, ap, subst, ◌∙◌, inl, inr, ◌⊎◌, arith}
use Rattle.std.proofs.lemmas.Bool.{and_parts, and_from, eqb-true, ltb-true, ltb-false, lt-ltb, cases_eq}
use Rattle.std.specs.FinMap.{len-entries, len-empty}
use Rattle.std.specs.Ordering.{nat_cmp}
use Rattle.ep_base.specs.Attributes.{join}
use Rattle.ep_base.specs.Ballots.{ballot_of, owner_of, highest_counter}
use Rattle.ep_base.specs.Deps.{union, union_from, by_order}
use Rattle.ep_base.specs.Instances.{instance_of, leader_of, highest_number}
use Rattle.ep_base.specs.Messages.{instance_of_message}
use Rattle.ep_base.specs.Quorums.{size, spared, is_fast}
use Rattle.ep_base.specs.declared.attrs.Attrs.{Attrs}
use Rattle.ep_base.specs.Commands.{Command, Noop}
use Rattle.ep_base.specs.declared.decree.Decree.{Decree}
use Rattle.ep_base.specs.declared.message.Message.{Message}
use Rattle.ep_base.specs.declared.message.Message.TheVariants.{PreAccept, PreAcceptOk, Accept, AcceptOk, Commit, Prepare, PrepareOk, Nack}
use Rattle.ep_base.specs.declared.reply.Answer.{Answer}
use Rattle.ep_base.specs.declared.vote.VoteStatus.{VoteStatus}
use Rattle.ep_base.specs.declared.vote.VoteStatus.TheVariants.{PreAccepted, Accepted}
use Rattle.ep_base.specs.declared.vote.Vote.{Vote}
use Rattle.ep_rules.specs.Answers.{Answers, answer, with_answer}
use Rattle.ep_rules.specs.Cells.{Change, nothing, answered, recorded, kept, voted, voted_ballot, is_committed, is_done_at, is_settled_at, record_or_fresh, Refusal}
use Rattle.ep_rules.specs.Counting.{least, is_other}
use Rattle.ep_rules.specs.InterferenceSet.{interference, touches}
use Rattle.ep_rules.specs.Maps.{Map, none, get, entries}
use Rattle.ep_rules.specs.Phases.{Outcome, limited, first_phase, accept_phase, with_commit, commit_phase, propose, with_attrs, on_pre_accept, on_accept, on_commit, is_usable, others, fast_answered, all_equal, join_some, join_all, joined, slow_path, fast_path, count_pre_accept_ok, use_pre_accept_ok, on_pre_accept_ok, give_up, commit_own, use_accept_ok, on_accept_ok}
use Rattle.ep_rules.specs.Recovery.{Choice, CommitIt, AcceptIt, AcceptFast, ProposeIt, ProposeNoop, votes, did_commit, did_accept_at, did_preaccept_at, is_fast_witness, top_ballot, with_vote_of, choose_at, choose, act_on, next_counter, recover, on_prepare, answered_all, count_prepare_ok, use_prepare_ok, on_prepare_ok}
use Rattle.ep_rules.specs.OneMap.{Store}
use Rattle.ep_rules.specs.States.{State, fresh_state, cell_in, record_in, with_entry, with_led, free_number}
use Rattle.ep_rules.specs.Steps.{Sent, Event, Propose, Handle, GiveUp, Recover, Execute, are_within, vote_within, message_within, is_within, handled, at, proposed, acts, changed_by, leaves, sent_from, sent_by, sends}
use Rattle.ep_rules.specs.Worlds.{World, opening, In, Act, Happens, moved, IsRun, ends}
use Rattle.ep_rules.specs.declared.led_instance.LedInstance.{LedInstance}
use Rattle.ep_rules.specs.declared.led_instance.LedInstance.TheVariants.{Proposing, Accepting, Preparing}
use Rattle.ep_rules.specs.declared.record.Record.{Record}
use Rattle.ep_rules.proofs.Keeping.{AllSent, sent_to_those, split}
use Rattle.ep_rules.proofs.Lookups.{answer_back, insert_same, insert_other, remove_same, remove_other, none_there}
use Rattle.ep_rules.proofs.Local.{free_found}
use Rattle.ep_rules.proofs.Moves.{message_in, unscreened}
use Rattle.ep_laws.specs.Alone.{silenced}
use Rattle.ep_laws.proofs.Entries.{AllEntries, all_get, all_insert, instances_within}

pub record RecordSound (n i : ℕ) (x : Record) : Type 0 where
  pub promised : owner_of x.promised < n
  pub vote : vote_within n x.vote ≡ true
  pub order : voted_ballot i x.vote ≤ x.promised

abbrev pub AnswersWithin : ℕ → Answers Attrs → Type 0
AnswersWithin n answers = (k : ℕ) (a : Attrs) → answer answers k ≡ Some a → are_within n a.deps ≡ true

abbrev pub VotesWithin : ℕ → Answers (Option Vote) → Type 0
VotesWithin n answers = (k : ℕ) (v : Option Vote) → answer answers k ≡ Some v → vote_within n v ≡ true

abbrev pub LedSound : ℕ → LedInstance → Type 0
LedSound n (Proposing b s answers) = AnswersWithin n answers
LedSound n (Accepting b answers) = Unit {0}
LedSound n (Preparing b answers) = VotesWithin n answers

abbrev pub EntrySound : ℕ → ℕ → Option Record → Type 0
EntrySound n i None = Unit {0}
EntrySound n i (Some x) = RecordSound n i x

abbrev pub LeadSound : ℕ → Option LedInstance → Type 0
LeadSound n None = Unit {0}
LeadSound n (Some l) = LedSound n l

abbrev pub NewLeadSound : ℕ → Option (Option LedInstance) → Type 0
NewLeadSound n None = Unit {0}
NewLeadSound n (Some l) = LeadSound n l

pub record ChangeSound (n i : ℕ) (ch : Change) : Type 0 where
  pub entry : EntrySound n i ch.entry
  pub led : NewLeadSound n ch.led
  pub out : AllSent (λ to m. message_within n m ≡ true) ch.out

abbrev pub OutcomeSound : ℕ → ℕ → Outcome → Type 0
OutcomeSound n i (Ok ch) = ChangeSound n i ch
OutcomeSound n i (Err e) = Unit {0}

-- Lists of instances.

union_from_within : (n i : ℕ) (rest : List ℕ → List ℕ) (js : List ℕ) → leader_of i < n → ((ks : List ℕ) → are_within n ks ≡ true → are_within n (rest ks) ≡ true) → are_within n js ≡ true → are_within n (union_from i rest js) ≡ true
union_from_within n i rest [] lt h w = and_from _ _ (lt-ltb (leader_of i) n lt) (h [] refl)
union_from_within n i rest (j ∷ js) lt h w =
    let t = and_parts (ltb (leader_of j) n) (are_within n js) w in
    go (nat_cmp i j) t.0 t.1 (union_from_within n i rest js lt h t.1)
  where
    go : (o : Ordering) → ltb (leader_of j) n ≡ true → are_within n js ≡ true → are_within n (union_from i rest js) ≡ true → are_within n (by_order o (i ∷ rest (j ∷ js)) (i ∷ rest js) (j ∷ union_from i rest js)) ≡ true
    go Less a b c = and_from _ _ (lt-ltb (leader_of i) n lt) (h (j ∷ js) (and_from _ _ a b))
    go Equal a b c = and_from _ _ (lt-ltb (leader_of i) n lt) (h js b)
    go Greater a b c = and_from _ _ a c

pub union_within : (n : ℕ) (is js : List ℕ) → are_within n is ≡ true → are_within n js ≡ true → are_within n (union is js) ≡ true
union_within n [] js a b = b
union_within n (i ∷ is) js a b =
    let t = and_parts (ltb (leader_of i) n) (are_within n is) a in
    union_from_within n i (union is) js (ltb-true _ _ t.0) (λ ks w. union_within n is ks t.1 w) b

join_all_within : (n k : ℕ) (answers : Answers Attrs) (a : Attrs) → AnswersWithin n answers → are_within n a.deps ≡ true → are_within n (join_all k answers a).deps ≡ true
join_all_within n zero answers a each w = w
join_all_within n (suc k) answers a each w = go (answer answers k) refl (join_all_within n k answers a each w)
  where
    go : (o : Option Attrs) → answer answers k ≡ o → are_within n (join_all k answers a).deps ≡ true → are_within n (join_some o (join_all k answers a)).deps ≡ true
    go None e rec = rec
    go (Some b) e rec = union_within n b.deps (join_all k answers a).deps (each k b e) rec

more_within : (n : ℕ) (answers : Answers Attrs) (from : ℕ) (a : Attrs) → AnswersWithin n answers → are_within n a.deps ≡ true → AnswersWithin n (with_answer answers from a)
more_within n answers from a each w k b e = elim (answer_back answers from a k b e) [ inl old ↦ each k b old | inr t ↦ subst (λ (c : Attrs). are_within n c.deps ≡ true) t.1 w ]

more_votes : (n : ℕ) (answers : Answers (Option Vote)) (from : ℕ) (v : Option Vote) → VotesWithin n answers → vote_within n v ≡ true → VotesWithin n (with_answer answers from v)
more_votes n answers from v each w k u e = elim (answer_back answers from v k u e) [ inl old ↦ each k u old | inr t ↦ subst (λ c. vote_within n c ≡ true) t.1 w ]

-- The choice.

abbrev ChoiceSound : ℕ → Choice → Type 0
ChoiceSound n (CommitIt x) = are_within n x.attrs.deps ≡ true
ChoiceSound n (AcceptIt x) = are_within n x.attrs.deps ≡ true
ChoiceSound n (AcceptFast x) = are_within n x.attrs.deps ≡ true
ChoiceSound n (ProposeIt c) = Unit {0}
ChoiceSound n ProposeNoop = Unit {0}

vote_of_sound : (n : ℕ) (o : Option (Option Vote)) (chosen : Decree → Choice) (other : Choice) → ((v : Option Vote) → o ≡ Some v → vote_within n v ≡ true) → ((x : Decree) → are_within n x.attrs.deps ≡ true → ChoiceSound n (chosen x)) → ChoiceSound n other → ChoiceSound n (with_vote_of o chosen other)
vote_of_sound n None chosen other h c p = p
vote_of_sound n (Some None) chosen other h c p = p
vote_of_sound n (Some (Some v)) chosen other h c p = c v.decree (and_parts (ltb (owner_of v.ballot) n) _ (h (Some v) refl)).1

choose_at_sound : (n : ℕ) (vote : ℕ → Option (Option Vote)) (o : Option ℕ) (chosen : Decree → Choice) (other : Choice) → ((k : ℕ) (v : Option Vote) → vote k ≡ Some v → vote_within n v ≡ true) → ((x : Decree) → are_within n x.attrs.deps ≡ true → ChoiceSound n (chosen x)) → ChoiceSound n other → ChoiceSound n (choose_at vote o chosen other)
choose_at_sound n vote None chosen other h c p = p
choose_at_sound n vote (Some r) chosen other h c p = vote_of_sound n (vote r) chosen other (h r) c p

choose_sound : (n f l : ℕ) (vote : ℕ → Option (Option Vote)) → ((k : ℕ) (v : Option Vote) → vote k ≡ Some v → vote_within n v ≡ true) → ChoiceSound n (choose f l vote)
choose_sound n f l vote h =
    let top = top_ballot l (size f) vote in
    choose_at_sound n vote (least (size f) (λ r. votes did_commit (vote r))) (λ x. CommitIt x) _ h (λ x w. w)
    (choose_at_sound n vote (least (size f) (λ r. votes (did_accept_at top) (vote r))) (λ x. AcceptIt x) _ h (λ x w. w)
    (choose_at_sound n vote (least (size f) (λ r. eqb top l && is_fast_witness f l vote r)) (λ x. AcceptFast x) _ h (λ x w. w)
    (choose_at_sound n vote (least (size f) (λ r. votes (did_preaccept_at top) (vote r))) (λ x. ProposeIt x.command) _ h (λ x w. tt) tt)))

pub fresh_sound : (n i : ℕ) → n ≤ 256 → leader_of i < n → RecordSound n i (record_or_fresh i None)
fresh_sound n i few lead = record { promised = (omega arith); vote = refl; order = (omega arith) }

voted_owner : (n i : ℕ) (v : Option Vote) → n ≤ 256 → leader_of i < n → vote_within n v ≡ true → owner_of (voted_ballot i v) < n
voted_owner n i None few lead w = omega arith
voted_owner n i (Some v) few lead w = ltb-true _ _ (and_parts (ltb (owner_of v.ballot) n) _ w).0

-- One replica's rules for instance i.
module _ (f i me : ℕ) (few : size f ≤ 256) (here : me < size f) (lead : leader_of i < size f) (x : Record) (ok : RecordSound (size f) i x) where
  abbrev n : ℕ
  n = size f

  leads : ltb (leader_of i) n ≡ true
  leads = lt-ltb (leader_of i) n lead

  abbrev Owned : ℕ → Type 0
  Owned b = ltb (owner_of b) n ≡ true

  promised_owned : Owned x.promised
  promised_owned = lt-ltb (owner_of x.promised) n ok.promised

  sound_nothing : ChangeSound n i nothing
  sound_nothing = record { entry = tt; led = tt; out = tt }

  sound_answered : (from : ℕ) (m : Message) → message_within n m ≡ true → ChangeSound n i (answered from m)
  sound_answered from m w = record { entry = tt; led = tt; out = (w, tt) }

  sound_nack : (from b : ℕ) → Owned b → ChangeSound n i (answered from (Nack i b x.promised))
  sound_nack from b own = sound_answered from (Nack i b x.promised) (and_from _ _ leads (and_from _ _ own promised_owned))

  sound_recorded : (y : Record) (from : ℕ) (m : Message) → RecordSound n i y → message_within n m ≡ true → ChangeSound n i (recorded y from m)
  sound_recorded y from m r w = record { entry = r; led = tt; out = (w, tt) }

  sound_kept : (led : LedInstance) → LedSound n led → ChangeSound n i (kept led)
  sound_kept led l = record { entry = tt; led = l; out = tt }

  sound_voted : (b : ℕ) (s : VoteStatus) (d : Decree) → Owned b → are_within n d.attrs.deps ≡ true → RecordSound n i (voted b s d)
  sound_voted b s d own w = record { promised = ltb-true _ _ own; vote = and_from _ _ own w; order = (omega arith) }

  sound_first_phase : (asked : ℕ → Bool) (b s : ℕ) (d : Decree) → Owned b → are_within n d.attrs.deps ≡ true → ChangeSound n i (first_phase asked f i b s d)
  sound_first_phase asked b s d own w = record {
    entry = sound_voted b PreAccepted d own w;
    led = λ k a e. absurd (cc);
    out = sent_to_those _ asked (size f) (PreAccept i b d) (λ k lt e. and_from _ _ leads (and_from _ _ own w));
  }

  sound_accept_phase : (b : ℕ) (d : Decree) → Owned b → are_within n d.attrs.deps ≡ true → ChangeSound n i (accept_phase f i me b d)
  sound_accept_phase b d own w = record {
    entry = sound_voted b Accepted d own w;
    led = tt;
    out = sent_to_those _ (is_other me) (size f) (Accept i b d) (λ k lt e. and_from _ _ leads (and_from _ _ own w));
  }

  sound_with_commit : (d : Decree) → are_within n d.attrs.deps ≡ true → RecordSound n i (with_commit i x d)
  sound_with_commit d w = record { promised = ok.promised; vote = and_from _ _ (lt-ltb (owner_of (voted_ballot i x.vote)) n (voted_owner n i x.vote few lead ok.vote)) w; order = ok.order }

  sound_commit_phase : (d : Decree) → are_within n d.attrs.deps ≡ true → ChangeSound n i (commit_phase f i me d x)
  sound_commit_phase d w = record {
    entry = sound_with_commit d w;
    led = tt;
    out = sent_to_those _ (is_other me) (size f) (Commit i d) (λ k lt e. and_from _ _ leads w);
  }

  sound_limited : (a : Attrs) (ch : Change) → ChangeSound n i ch → OutcomeSound n i (limited a ch)
  sound_limited a ch p = split (OutcomeSound n i) (leb a.seq 1000000) _ _ (λ e. p) (λ e. tt)

  -- The events.

  default_owned : Owned (leader_of i)
  default_owned = lt-ltb (owner_of (leader_of i)) n (omega arith)

  pub sound_propose : (s : ℕ) (c : Command) (own : Attrs) → are_within n own.deps ≡ true → OutcomeSound n i (propose f i s c own)
  sound_propose s c own w = sound_limited own _ (sound_first_phase (is_fast (leader_of i) s) (leader_of i) s (record { command = c; attrs = own }) default_owned w)

  pub sound_pre_accept : (from b : ℕ) (d : Decree) (own : Attrs) → Owned b → are_within n d.attrs.deps ≡ true → are_within n own.deps ≡ true → OutcomeSound n i (on_pre_accept i from b d own x)
  sound_pre_accept from b d own owned w v =
      let both : are_within n (join d.attrs own).deps ≡ true = union_within n d.attrs.deps own.deps w v in
      split (OutcomeSound n i) (ltb b x.promised) _ _ (λ e. sound_nack from b owned) (λ e.
      split (OutcomeSound n i) (is_done_at b x.vote) _ _ (λ u. sound_nothing) (λ u.
      sound_limited own _ (sound_recorded (voted b PreAccepted (with_attrs d (join d.attrs own))) from _ (sound_voted b PreAccepted (with_attrs d (join d.attrs own)) owned both) (and_from _ _ leads (and_from _ _ owned both)))))

  pub sound_accept : (from b : ℕ) (d : Decree) → Owned b → are_within n d.attrs.deps ≡ true → ChangeSound n i (on_accept i from b d x)
  sound_accept from b d owned w =
      split (ChangeSound n i) (ltb b x.promised) _ _ (λ e. sound_nack from b owned) (λ e.
      split (ChangeSound n i) (is_settled_at b x.vote) _ _ (λ u. sound_nothing) (λ u.
      sound_recorded (voted b Accepted d) from _ (sound_voted b Accepted d owned w) (and_from _ _ leads owned)))

  pub sound_commit : (d : Decree) → are_within n d.attrs.deps ≡ true → ChangeSound n i (on_commit i d x)
  sound_commit d w = split (ChangeSound n i) (is_committed x.vote) _ _ (λ e. sound_nothing) (λ e. record { entry = sound_with_commit d w; led = tt; out = tt })

  vote_deps : (v : Vote) → vote_within n (Some v) ≡ true → are_within n v.decree.attrs.deps ≡ true
  vote_deps v w = (and_parts (ltb (owner_of v.ballot) n) _ w).1

  sound_slow : (b : ℕ) (answers : Answers Attrs) → Owned b → AnswersWithin n answers → (v : Option Vote) → vote_within n v ≡ true → ChangeSound n i (slow_path f i me b answers v)
  sound_slow b answers owned each None w = sound_nothing
  sound_slow b answers owned each (Some v) w = sound_accept_phase b (joined f answers v.decree) owned (join_all_within n (size f) answers v.decree.attrs each (vote_deps v w))

  sound_fast : (a : Attrs) → are_within n a.deps ≡ true → (v : Option Vote) → ChangeSound n i (fast_path f i me a x v)
  sound_fast a w None = sound_nothing
  sound_fast a w (Some v) = sound_commit_phase (with_attrs v.decree a) w

  sound_count_pre_accept_ok : (b s : ℕ) (a : Attrs) (answers : Answers Attrs) → Owned b → are_within n a.deps ≡ true → AnswersWithin n answers → ChangeSound n i (count_pre_accept_ok f i me b s a answers x)
  sound_count_pre_accept_ok b s a answers owned w each =
      split (ChangeSound n i) (eqb b (leader_of i)) _ _
      (λ e. split (ChangeSound n i) (fast_answered f (leader_of i) s answers) _ _
      (λ e. split (ChangeSound n i) (all_equal f a answers) _ _ (λ e. sound_fast a w x.vote) (λ e. sound_slow b answers owned each x.vote ok.vote))
      (λ e. sound_kept (Proposing b s answers) each))
      (λ e. split (ChangeSound n i) (leb f (others f me answers)) _ _ (λ e. sound_slow b answers owned each x.vote ok.vote) (λ e. sound_kept (Proposing b s answers) each))

  pub sound_pre_accept_ok : (from b : ℕ) (a : Attrs) (led : Option LedInstance) → Owned b → are_within n a.deps ≡ true → LeadSound n led → ChangeSound n i (on_pre_accept_ok f i me from b a x led)
  sound_pre_accept_ok from b a None owned w l = sound_nothing
  sound_pre_accept_ok from b a (Some (Accepting lb answers)) owned w l = sound_nothing
  sound_pre_accept_ok from b a (Some (Preparing lb answers)) owned w l = sound_nothing
  sound_pre_accept_ok from b a (Some (Proposing lb s answers)) owned w l =
      split (λ more. ChangeSound n i (use_pre_accept_ok f i me b a x more)) (is_some (answer answers from)) _ _ (λ e. sound_nothing) (λ e.
      split (ChangeSound n i) (is_usable b x lb) _ _ (λ u. sound_count_pre_accept_ok b s a (with_answer answers from a) owned w (more_within n answers from a l w)) (λ u. sound_nothing))

  pub sound_give_up : (led : Option LedInstance) → LeadSound n led → OutcomeSound n i (give_up f i me x led)
  sound_give_up None l = tt
  sound_give_up (Some (Accepting b answers)) l = tt
  sound_give_up (Some (Preparing b answers)) l = tt
  sound_give_up (Some (Proposing b s answers)) l =
      split (OutcomeSound n i) (is_usable (leader_of i) x b) _ _
      (λ u. split (OutcomeSound n i) (leb f (others f me answers)) _ _
      (λ m. sound_slow b answers (subst (λ k. Owned k) (sym (eqb-true b (leader_of i) (and_parts (eqb b (leader_of i)) _ u).0)) default_owned) l x.vote ok.vote)
      (λ m. tt))
      (λ u. tt)

  sound_commit_own : (v : Option Vote) → vote_within n v ≡ true → ChangeSound n i (commit_own f i me x v)
  sound_commit_own None w = sound_nothing
  sound_commit_own (Some v) w = sound_commit_phase v.decree (vote_deps v w)

  pub sound_accept_ok : (from b : ℕ) (led : Option LedInstance) → ChangeSound n i (on_accept_ok f i me from b x led)
  sound_accept_ok from b None = sound_nothing
  sound_accept_ok from b (Some (Proposing lb s answers)) = sound_nothing
  sound_accept_ok from b (Some (Preparing lb answers)) = sound_nothing
  sound_accept_ok from b (Some (Accepting lb answers)) =
      split (λ more. ChangeSound n i (use_accept_ok f i me b x more)) (is_some (answer answers from)) _ _ (λ e. sound_nothing) (λ e.
      split (ChangeSound n i) (is_usable b x lb) _ _
      (λ u. split (ChangeSound n i) (leb f (others f me (with_answer answers from tt))) _ _ (λ m. sound_commit_own x.vote ok.vote) (λ m. sound_kept (Accepting b (with_answer answers from tt)) tt))
      (λ u. sound_nothing))

  pub sound_recover : (reported : ℕ) → OutcomeSound n i (recover f i me x reported)
  sound_recover reported =
      let b : ℕ = ballot_of (next_counter x reported) me in
      let owned : Owned b = lt-ltb (owner_of b) n (omega arith) in
      split (OutcomeSound n i) (is_committed x.vote) _ _ (λ e. tt) (λ e.
      split (OutcomeSound n i) (leb (next_counter x reported) highest_counter) _ _
      (λ u. record {
        entry = record { promised = ltb-true _ _ owned; vote = ok.vote; order = (let o = ok.order in omega arith) };
        led = λ k v e. elim (answer_back [] me x.vote k v e) [ inl o ↦ absurd (cc) | inr t ↦ subst (λ w. vote_within n w ≡ true) t.1 ok.vote ];
        out = sent_to_those _ (is_other me) (size f) (Prepare i b) (λ k lt e. and_from _ _ leads owned);
      })
      (λ u. tt))

  pub sound_prepare : (from b : ℕ) → Owned b → ChangeSound n i (on_prepare i from b x)
  sound_prepare from b owned =
      split (ChangeSound n i) (ltb b x.promised) _ _ (λ e. sound_nack from b owned) (λ e.
      split (ChangeSound n i) (eqb b x.promised) _ _ (λ u. sound_nothing) (λ u.
      sound_recorded (record { promised = b; vote = x.vote }) from _
      (record { promised = ltb-true _ _ owned; vote = ok.vote; order = (let o = ok.order in let low = ltb-false b x.promised e in omega arith) })
      (and_from _ _ leads (and_from _ _ owned ok.vote))))

  module _ (own : Command → Attrs) (owns : (c : Command) → are_within n (own c).deps ≡ true) where
    sound_choice : (b : ℕ) (ch : Choice) → Owned b → ChoiceSound n ch → OutcomeSound n i (act_on f i me b own x ch)
    sound_choice b (CommitIt d) owned p = sound_commit_phase d p
    sound_choice b (AcceptIt d) owned p = sound_accept_phase b d owned p
    sound_choice b (AcceptFast d) owned p = sound_accept_phase b d owned p
    sound_choice b (ProposeIt c) owned p = sound_limited (own c) _ (sound_first_phase (is_other me) b me (record { command = c; attrs = own c }) owned (owns c))
    sound_choice b ProposeNoop owned p = sound_limited (own Noop) _ (sound_first_phase (is_other me) b me (record { command = Noop; attrs = own Noop }) owned (owns Noop))

    sound_count_prepare_ok : (b : ℕ) (answers : Answers (Option Vote)) → Owned b → VotesWithin n answers → OutcomeSound n i (count_prepare_ok f i me b answers own x)
    sound_count_prepare_ok b answers owned each =
        split (OutcomeSound n i) (leb (f + 1) (answered_all f answers)) _ _
        (λ m. sound_choice b (choose f (leader_of i) (λ q. answer answers q)) owned (choose_sound n f (leader_of i) (λ q. answer answers q) each))
        (λ m. sound_kept (Preparing b answers) each)

    pub sound_prepare_ok : (from b : ℕ) (v : Option Vote) (led : Option LedInstance) → Owned b → vote_within n v ≡ true → LeadSound n led → OutcomeSound n i (on_prepare_ok f i me from b v own x led)
    sound_prepare_ok from b v None owned w l = sound_nothing
    sound_prepare_ok from b v (Some (Proposing lb s answers)) owned w l = sound_nothing
    sound_prepare_ok from b v (Some (Accepting lb answers)) owned w l = sound_nothing
    sound_prepare_ok from b v (Some (Preparing lb answers)) owned w l =
        split (λ more. OutcomeSound n i (use_prepare_ok f i me b own x more)) (is_some (answer answers from)) _ _ (λ e. sound_nothing) (λ e.
        split (OutcomeSound n i) (is_usable b x lb) _ _ (λ u. sound_count_prepare_ok b (with_answer answers from v) owned (more_votes n answers from v l w)) (λ u. sound_nothing))

-- A replica's state.

pub record StateSound (n : ℕ) (s : State) : Type 0 where
  pub ranged : AllEntries (λ (j : ℕ) (x : Record). leader_of j < n) (entries s.records)
  pub records : AllEntries (λ (j : ℕ) (x : Record). RecordSound n j x) (entries s.records)
  pub leads : (j : ℕ) (l : LedInstance) → get s.leads j ≡ Some l → LedSound n l

module _ (n : ℕ) (few : n ≤ 256) (s : State) (ok : StateSound n s) (i : ℕ) where
  pub record_sound : leader_of i < n → RecordSound n i (record_in s i)
  record_sound lead = go (get s.records i) refl
    where
      go : (o : Option Record) → get s.records i ≡ o → RecordSound n i (record_or_fresh i o)
      go None e = fresh_sound n i few lead
      go (Some x) e = all_get (λ (j : ℕ) (x : Record). RecordSound n j x) s.records i x ok.records e

  pub lead_sound : (o : Option LedInstance) → get s.leads i ≡ o → LeadSound n o
  lead_sound None e = tt
  lead_sound (Some l) e = ok.leads i l e

  pub own_within : (c : Command) → are_within n (interference s.records i c).deps ≡ true
  own_within c = instances_within n (touches c i) (entries s.records) ok.ranged

abbrev pub ActSound : ℕ → Result (ℕ × Change) Refusal → Type 0
ActSound n (Ok p) = (leader_of p.0 < n) × ChangeSound n p.0 p.1
ActSound n (Err e) = Unit {0}

act_at : (n i : ℕ) (o : Outcome) → leader_of i < n → OutcomeSound n i o → ActSound n (at i o)
act_at n i (Ok ch) lead p = (lead, p)
act_at n i (Err e) lead p = tt

pub own_leader : (me m : ℕ) → m < highest_number → leader_of (instance_of me (m + 1)) ≡ me
own_leader me m lt = omega arith

-- A step.
module _ (f me : ℕ) (few : size f ≤ 256) (here : me < size f) (s : State) (ok : StateSound (size f) s) where
  handled_sound : (from : ℕ) (m : Message) → leader_of (instance_of_message m) < size f → message_within (size f) m ≡ true → OutcomeSound (size f) (instance_of_message m) (handled f me from s m)
  handled_sound from (PreAccept i b x) lead w =
      let t = and_parts (ltb (leader_of i) (size f)) _ w in
      let u = and_parts (ltb (owner_of b) (size f)) _ t.1 in
      sound_pre_accept f i me few here lead (record_in s i) (record_sound (size f) few s ok i lead) from b x (interference s.records i x.command) u.0 u.1 (own_within (size f) few s ok i x.command)
  handled_sound from (PreAcceptOk i b a) lead w =
      let t = and_parts (ltb (leader_of i) (size f)) _ w in
      let u = and_parts (ltb (owner_of b) (size f)) _ t.1 in
      sound_pre_accept_ok f i me few here lead (record_in s i) (record_sound (size f) few s ok i lead) from b a (get s.leads i) u.0 u.1 (lead_sound (size f) few s ok i (get s.leads i) refl)
  handled_sound from (Accept i b x) lead w =
      let t = and_parts (ltb (leader_of i) (size f)) _ w in
      let u = and_parts (ltb (owner_of b) (size f)) _ t.1 in
      sound_accept f i me few here lead (record_in s i) (record_sound (size f) few s ok i lead) from b x u.0 u.1
  handled_sound from (AcceptOk i b) lead w = sound_accept_ok f i me few here lead (record_in s i) (record_sound (size f) few s ok i lead) from b (get s.leads i)
  handled_sound from (Commit i x) lead w =
      sound_commit f i me few here lead (record_in s i) (record_sound (size f) few s ok i lead) x (and_parts (ltb (leader_of i) (size f)) _ w).1
  handled_sound from (Prepare i b) lead w =
      sound_prepare f i me few here lead (record_in s i) (record_sound (size f) few s ok i lead) from b (and_parts (ltb (leader_of i) (size f)) _ w).1
  handled_sound from (PrepareOk i b v) lead w =
      let t = and_parts (ltb (leader_of i) (size f)) _ w in
      let u = and_parts (ltb (owner_of b) (size f)) _ t.1 in
      sound_prepare_ok f i me few here lead (record_in s i) (record_sound (size f) few s ok i lead) (interference s.records i) (own_within (size f) few s ok i) from b v (get s.leads i) u.0 u.1 (lead_sound (size f) few s ok i (get s.leads i) refl)
  handled_sound from (Nack i b p) lead w = record { entry = tt; led = tt; out = tt }

  proposed_sound : (k : ℕ) (c : Command) (o : Option ℕ) → free_number s.records me ≡ o → ActSound (size f) (proposed f me k s c o)
  proposed_sound k c None e = tt
  proposed_sound k c (Some m) e =
      let i : ℕ = instance_of me (m + 1) in
      let lead : leader_of i < size f = subst (λ l. l < size f) (sym (own_leader me m (free_found s.records me m e).0)) here in
      act_at (size f) i _ lead (sound_propose f i me few here lead (record_in s i) (record_sound (size f) few s ok i lead) k c (interference s.records i c) (own_within (size f) few s ok i c))

  pub acts_sound : (e : Event) → is_within f me e ≡ true → ActSound (size f) (acts f me s e)
  acts_sound (Propose client request c seen named) w = proposed_sound (spared f me named) c (free_number s.records me) refl
  acts_sound (Handle m) w =
      let named : message_within (size f) m.sent.message ≡ true = (and_parts (ltb m.sent.to (size f)) _ (and_parts (ltb m.sent.from (size f)) _ w).1).1 in
      let lead : leader_of (instance_of_message m.sent.message) < size f = message_in (size f) m.sent.message named in
      act_at (size f) _ _ lead (handled_sound m.sent.from m.sent.message lead named)
  acts_sound (GiveUp i) w =
      let lead : leader_of i < size f = ltb-true _ _ w in
      act_at (size f) i _ lead (sound_give_up f i me few here lead (record_in s i) (record_sound (size f) few s ok i lead) (get s.leads i) (lead_sound (size f) few s ok i (get s.leads i) refl))
  acts_sound (Recover i) w =
      let lead : leader_of i < size f = ltb-true _ _ w in
      act_at (size f) i _ lead (sound_recover f i me few here lead (record_in s i) (record_sound (size f) few s ok i lead) (cell_in s i).reported)
  acts_sound (Execute root) w = (ltb-true _ _ w, record { entry = tt; led = tt; out = tt })

-- The state after it.

pub entry_kept : (P : ℕ → Record → Type 0) (m : Map Record) (i : ℕ) (o : Option Record) → ((x : Record) → o ≡ Some x → P i x) → AllEntries P (entries m) → AllEntries P (entries (with_entry m i o))
entry_kept P m i None p a = a
entry_kept P m i (Some x) p a = all_insert P m i x (p x refl) a

new_entry : (n i : ℕ) (o : Option Record) → EntrySound n i o → (x : Record) → o ≡ Some x → RecordSound n i x
new_entry n i None p x e = absurd (cc)
new_entry n i (Some y) p x e = let same : y ≡ x = cc in subst (λ z. RecordSound n i z) same p

pub leads_kept : (Q : LedInstance → Type 0) (m : Map LedInstance) (i : ℕ) (o : Option (Option LedInstance)) → ((l : LedInstance) → o ≡ Some (Some l) → Q l) → ((j : ℕ) (l : LedInstance) → get m j ≡ Some l → Q l) → (j : ℕ) (l : LedInstance) → get (with_led m i o) j ≡ Some l → Q l
leads_kept Q m i None p all j l e = all j l e
leads_kept Q m i (Some None) p all j l e = elim (cases_eq j i) [
  | inl is ↦ absurd (let t : None ≡ Some l = sym (ap (get (with_led m i (Some None))) is ∙ remove_same m i) ∙ e in cc)
  | inr ne ↦ all j l (sym (remove_other m i j ne) ∙ e)
]
leads_kept Q m i (Some (Some k)) p all j l e = elim (cases_eq j i) [
  | inl is ↦ (let t : Some k ≡ Some l = sym (ap (get (with_led m i (Some (Some k)))) is ∙ insert_same m i k) ∙ e in let same : k ≡ l = cc in subst Q same (p k refl))
  | inr ne ↦ all j l (sym (insert_other m i k j ne) ∙ e)
]

new_lead : (n : ℕ) (o : Option (Option LedInstance)) → NewLeadSound n o → (l : LedInstance) → o ≡ Some (Some l) → LedSound n l
new_lead n None p l e = absurd (cc)
new_lead n (Some None) p l e = absurd (let t : None ≡ Some l = cc in cc)
new_lead n (Some (Some k)) p l e = let t : Some k ≡ Some l = cc in let same : k ≡ l = cc in subst (λ z. LedSound n z) same p

pub changed_sound : (n : ℕ) (s : State) (o : Result (ℕ × Change) Refusal) → ActSound n o → StateSound n s → StateSound n (changed_by s o)
changed_sound n s (Ok p) h ok = record {
  ranged = entry_kept (λ (j : ℕ) (x : Record). leader_of j < n) s.records p.0 p.1.entry (λ x e. h.0) ok.ranged;
  records = entry_kept (λ (j : ℕ) (x : Record). RecordSound n j x) s.records p.0 p.1.entry (new_entry n p.0 p.1.entry (h.1).entry) ok.records;
  leads = leads_kept (λ l. LedSound n l) s.leads p.0 p.1.led (new_lead n p.1.led (h.1).led) ok.leads;
}
changed_sound n s (Err e) h ok = ok

pub leaves_sound : (f me : ℕ) (s : State) (e : Event) (done : List (ℕ × Answer)) → size f ≤ 256 → me < size f → StateSound (size f) s → is_within f me e ≡ true → StateSound (size f) (leaves f me s e done)
leaves_sound f me s e done few here ok w =
    let t = changed_sound (size f) s (acts f me s e) (acts_sound f me few here s ok e w) ok in
    record { ranged = t.ranged; records = t.records; leads = t.leads }

none_of_any : {X : Type 0} (P : ℕ → X → Type 0) (es : List (ℕ × X)) → length es ≡ 0 → AllEntries P es
none_of_any P [] e = tt
none_of_any P (x ∷ xs) e = absurd (omega arith)

pub nothing_in : {X : Type 0} (P : ℕ → X → Type 0) → AllEntries P (entries (none {X = X}))
nothing_in {X} P = none_of_any P (entries (none {X = X})) (sym (len-entries (none {X = X})) ∙ len-empty nat_cmp X)

pub fresh_state_sound : (n : ℕ) (base : Store) → StateSound n (fresh_state base)
fresh_state_sound n base = record {
  ranged = nothing_in (λ (j : ℕ) (x : Record). leader_of j < n);
  records = nothing_in (λ (j : ℕ) (x : Record). RecordSound n j x);
  leads = λ j l e. absurd (let t : None ≡ Some l = sym (none_there j) ∙ e in cc);
}

-- Worlds.

pub in_left : (s : Sent) (xs ys : List Sent) → In s xs → In s (xs ++ ys)
in_left s [] ys there = absurd there
in_left s (x ∷ xs) ys (inl e) = inl e
in_left s (x ∷ xs) ys (inr there) = inr (in_left s xs ys there)

pub in_right : (s : Sent) (xs ys : List Sent) → In s ys → In s (xs ++ ys)
in_right s [] ys there = there
in_right s (x ∷ xs) ys there = inr (in_right s xs ys there)

pub in_cases : (s : Sent) (xs ys : List Sent) → In s (xs ++ ys) → In s xs ⊎ In s ys
in_cases s [] ys there = inr there
in_cases s (x ∷ xs) ys (inl e) = inl (inl e)
in_cases s (x ∷ xs) ys (inr there) = elim (in_cases s xs ys there) [ inl h ↦ inl (inr h) | inr h ↦ inr h ]

pub record WorldSound (f : ℕ) (w : World) : Type 0 where
  pub states : (r : ℕ) → StateSound (size f) (w.states r)
  pub sent : (s : Sent) → In s w.sent → message_within (size f) s.message ≡ true

out_within : (n r : ℕ) (out : List (ℕ × Message)) → AllSent (λ to m. message_within n m ≡ true) out → (s : Sent) → In s (sent_from r out) → message_within n s.message ≡ true
out_within n r [] all s there = absurd there
out_within n r (m ∷ ms) all s (inl e) = subst (λ (t : Sent). message_within n t.message ≡ true) e all.0
out_within n r (m ∷ ms) all s (inr there) = out_within n r ms all.1 s there

sent_within : (n r : ℕ) (o : Result (ℕ × Change) Refusal) → ActSound n o → (s : Sent) → In s (sent_by r o) → message_within n s.message ≡ true
sent_within n r (Ok p) h s there = out_within n r p.1.out (h.1).out s there
sent_within n r (Err e) h s there = absurd there

pub act_sound : (f : ℕ) → size f ≤ 256 → (w : World) (a : Act) → Happens f w a → WorldSound f w → WorldSound f (moved f w a)
act_sound f few w a p ok =
    let w_in : is_within f a.replica a.event ≡ true = (unscreened f a.replica a.event (p.step).unscreened).0 in
    record {
      states = λ r. split (λ s. StateSound (size f) s) (eqb a.replica r) (leaves f r (w.states r) a.event a.done) (w.states r)
          (λ e. let is : a.replica ≡ r = eqb-true a.replica r e in subst (λ k. StateSound (size f) (leaves f k (w.states k) a.event a.done)) is (leaves_sound f a.replica (w.states a.replica) a.event a.done few p.replica (ok.states a.replica) w_in))
          (λ e. ok.states r);
      sent = λ s there. elim (in_cases s w.sent (sends f a.replica (w.states a.replica) a.event) there) [
        | inl old ↦ ok.sent s old
        | inr new ↦ sent_within (size f) a.replica (acts f a.replica (w.states a.replica) a.event) (acts_sound f a.replica few p.replica (w.states a.replica) (ok.states a.replica) a.event w_in) s new
      ];
    }

pub run_sound : (f : ℕ) → size f ≤ 256 → (acts : List Act) (w : World) → IsRun f w acts → WorldSound f w → WorldSound f (ends f w acts)
run_sound f few [] w run ok = ok
run_sound f few (a ∷ acts) w run ok = run_sound f few acts (moved f w a) run.1 (act_sound f few w a run.0 ok)

pub opening_sound : (f : ℕ) (base : Store) → WorldSound f (opening base)
opening_sound f base = record { states = λ r. fresh_state_sound (size f) base; sent = λ s there. absurd there }

pub silenced_sound : (f : ℕ) (w : World) → WorldSound f w → WorldSound f (silenced w)
silenced_sound f w ok = record { states = ok.states; sent = λ s there. absurd there }

-- When an instance turns to committed in a replica's records: exactly when the replica handles a Commit of it, or sends one.
use Rattle.std.proofs.Common.{◌≡◌, ℕ, zero, suc, ◌+◌, ◌*◌, ◌<◌, Bool, true, false, ◌||◌, not, eqb, ltb, leb, cond, List, [], ◌∷◌, ◌++◌, Option, Some, None, is_some, Ok, Err, refl, sym, ap, subst, ◌∙◌, arith}
use Rattle.std.proofs.lemmas.Bool.{false≢true, ne_eqb}
use Rattle.ep_base.specs.Ballots.{ballot_of, highest_counter}
use Rattle.ep_base.specs.Instances.{leader_of}
use Rattle.ep_base.specs.Messages.{instance_of_message}
use Rattle.ep_base.specs.Quorums.{size, is_fast}
use Rattle.ep_base.specs.declared.attrs.Attrs.{Attrs}
use Rattle.ep_base.specs.Commands.{Command, Noop}
use Rattle.ep_base.specs.declared.decree.Decree.{Decree}
use Rattle.ep_base.specs.declared.message.Message.{Message}
use Rattle.ep_base.specs.declared.message.Message.TheVariants.{PreAccept, PreAcceptOk, Accept, AcceptOk, Commit, Prepare, PrepareOk, Nack}
use Rattle.ep_base.specs.Attributes.{join}
use Rattle.ep_base.specs.declared.vote.VoteStatus.TheVariants.{PreAccepted, Accepted}
use Rattle.ep_base.specs.declared.vote.Vote.{Vote}
use Rattle.ep_base.proofs.Tests.{or_false}
use Rattle.ep_rules.specs.Answers.{Answers, answer, with_answer}
use Rattle.ep_rules.specs.Cells.{is_committed, is_done_at, is_settled_at, Change, nothing, answered, recorded, kept, voted}
use Rattle.ep_rules.specs.Counting.{is_other, to_those}
use Rattle.ep_rules.specs.InterferenceSet.{interference}
use Rattle.ep_rules.specs.Maps.{get}
use Rattle.ep_rules.specs.Phases.{Outcome, with_attrs, limited, first_phase, accept_phase, commit_phase, propose, on_pre_accept, on_accept, on_commit, is_usable, others, fast_answered, all_equal, slow_path, fast_path, count_pre_accept_ok, use_pre_accept_ok, on_pre_accept_ok, give_up, commit_own, use_accept_ok, on_accept_ok}
use Rattle.ep_rules.specs.Recovery.{Choice, CommitIt, AcceptIt, AcceptFast, ProposeIt, ProposeNoop, choose, recover_with, act_on, next_counter, recover, on_prepare, answered_all, count_prepare_ok, use_prepare_ok, on_prepare_ok, on_nack}
use Rattle.ep_rules.specs.States.{State, cell_in, record_in}
use Rattle.ep_rules.specs.Steps.{handled}
use Rattle.ep_rules.specs.declared.led_instance.LedInstance.{LedInstance}
use Rattle.ep_rules.specs.declared.led_instance.LedInstance.TheVariants.{Proposing, Accepting, Preparing}
use Rattle.ep_rules.specs.declared.record.Record.{Record}
use Rattle.ep_rules.proofs.Keeping.{split}
use Rattle.ep_rules.proofs.Leading.{usable}
use Rattle.ep_rules.proofs.Votes.{not_settled, not_committed}

abbrev pub is_commit_message : Message → Bool
is_commit_message (PreAccept i b x) = false
is_commit_message (PreAcceptOk i b a) = false
is_commit_message (Accept i b x) = false
is_commit_message (AcceptOk i b) = false
is_commit_message (Commit i x) = true
is_commit_message (Prepare i b) = false
is_commit_message (PrepareOk i b v) = false
is_commit_message (Nack i b p) = false

-- the first of what is sent is a Commit
abbrev pub says_commit : List (ℕ × Message) → Bool
says_commit [] = false
says_commit (e ∷ es) = is_commit_message e.1

-- whether the instance is committed after a change of its record
abbrev pub after_entry : Record → Option Record → Bool
after_entry x None = is_committed x.vote
after_entry x (Some y) = is_committed y.vote

-- it is committed after a change exactly where it was, or Commits are sent
abbrev pub Reported : Record → Change → Type 0
Reported x ch = after_entry x ch.entry ≡ (is_committed x.vote || says_commit ch.out)

abbrev pub ReportedOk : Record → Outcome → Type 0
ReportedOk x (Ok ch) = Reported x ch
ReportedOk x (Err e) = Unit {0}

-- What is sent.

says_append : (xs ys : List (ℕ × Message)) → says_commit xs ≡ false → says_commit ys ≡ false → says_commit (xs ++ ys) ≡ false
says_append [] ys first then = then
says_append (x ∷ xs) ys first then = first

none_says : (p : ℕ → Bool) (n : ℕ) (m : Message) → is_commit_message m ≡ false → says_commit (to_those p n m) ≡ false
none_says p zero m quiet = refl
none_says p (suc n) m quiet = says_append (to_those p n m) (cond (p n) ((n, m) ∷ []) []) (none_says p n m quiet) (one (p n))
  where
    one : (b : Bool) → says_commit (cond b ((n, m) ∷ []) []) ≡ false
    one true = quiet
    one false = refl

says_first : (xs ys : List (ℕ × Message)) → says_commit xs ≡ true → says_commit (xs ++ ys) ≡ true
says_first [] ys first = absurd (false≢true first)
says_first (x ∷ xs) ys first = first

-- there is another replica below two
others_say : (me n i : ℕ) (d : Decree) → says_commit (to_those (is_other me) (suc (suc n)) (Commit i d)) ≡ true
others_say zero zero i d = refl
others_say (suc me) zero i d = first (is_other (suc me) 0) (is_other (suc me) 1) (ap not (ne_eqb 0 (suc me) (λ (e : 0 ≡ suc me). omega (arith, e))))
  where
    first : (b c : Bool) → b ≡ true → says_commit (cond b ((0, Commit i d) ∷ []) [] ++ cond c ((1, Commit i d) ∷ []) []) ≡ true
    first true c e = refl
    first false c e = absurd (false≢true e)
others_say me (suc n) i d =
    says_first (to_those (is_other me) (suc (suc n)) (Commit i d)) (cond (is_other me (suc (suc n))) ((suc (suc n), Commit i d) ∷ []) []) (others_say me n i d)

commits_say : (f i me : ℕ) (d : Decree) → 0 < f → says_commit (to_those (is_other me) (size f) (Commit i d)) ≡ true
commits_say zero i me d more = absurd (omega (arith, more))
commits_say (suc f) i me d more =
    let n : size (suc f) ≡ suc (suc (2 * f + 1)) = omega arith in
    subst (λ (k : ℕ). says_commit (to_those (is_other me) k (Commit i d)) ≡ true) (sym n) (others_say me (2 * f + 1) i d)

-- Votes.

-- Each rule but that for a Commit.
module _ (f i me : ℕ) (x : Record) (more : 0 < f) where
  abbrev Live : Type 0
  Live = is_committed x.vote ≡ false

  reported_nothing : Reported x nothing
  reported_nothing = sym (or_false (is_committed x.vote))

  reported_answered : (from : ℕ) (m : Message) → is_commit_message m ≡ false → Reported x (answered from m)
  reported_answered from m quiet = sym (ap (λ b. is_committed x.vote || b) quiet ∙ or_false (is_committed x.vote))

  reported_kept : (led : LedInstance) → Reported x (kept led)
  reported_kept led = sym (or_false (is_committed x.vote))

  -- what is voted isn't a commit, and none stood there
  reported_voted : Live → (y : Record) (from : ℕ) (m : Message) → is_commit_message m ≡ false → is_committed y.vote ≡ false → Reported x (recorded y from m)
  reported_voted live y from m quiet none = none ∙ sym (ap (λ b. b || is_commit_message m) live ∙ quiet)

  reported_same : (y : Record) (from : ℕ) (m : Message) → is_commit_message m ≡ false → y.vote ≡ x.vote → Reported x (recorded y from m)
  reported_same y from m quiet same = ap is_committed same ∙ sym (ap (λ b. is_committed x.vote || b) quiet ∙ or_false (is_committed x.vote))

  -- the phase asks those that pass, and votes for no commit
  reported_asked : Live → (p : ℕ → Bool) (m : Message) → is_commit_message m ≡ false → false ≡ (is_committed x.vote || says_commit (to_those p (size f) m))
  reported_asked live p m quiet = sym (ap (λ b. b || says_commit (to_those p (size f) m)) live ∙ none_says p (size f) m quiet)

  reported_first_phase : Live → (asked : ℕ → Bool) (b s : ℕ) (d : Decree) → Reported x (first_phase asked f i b s d)
  reported_first_phase live asked b s d = reported_asked live asked (PreAccept i b d) refl

  reported_accept_phase : Live → (b : ℕ) (d : Decree) → Reported x (accept_phase f i me b d)
  reported_accept_phase live b d = reported_asked live (is_other me) (Accept i b d) refl

  reported_commit_phase : Live → (d : Decree) → Reported x (commit_phase f i me d x)
  reported_commit_phase live d = sym (ap (λ b. b || says_commit (to_those (is_other me) (size f) (Commit i d))) live ∙ commits_say f i me d more)

  reported_limited : (a : Attrs) (ch : Change) → Reported x ch → ReportedOk x (limited a ch)
  reported_limited a ch p = split (ReportedOk x) (leb a.seq 1000000) _ _ (λ e. p) (λ e. tt)

  -- The events.

  pub reported_propose : Live → (s : ℕ) (c : Command) (own : Attrs) → ReportedOk x (propose f i s c own)
  reported_propose live s c own = reported_limited own (first_phase (is_fast (leader_of i) s) f i (leader_of i) s (record { command = c; attrs = own })) (reported_first_phase live (is_fast (leader_of i) s) (leader_of i) s (record { command = c; attrs = own }))

  reported_pre_accept : (from b : ℕ) (d : Decree) (own : Attrs) → ReportedOk x (on_pre_accept i from b d own x)
  reported_pre_accept from b d own =
      split (ReportedOk x) (ltb b x.promised) _ _ (λ e. reported_answered from (Nack i b x.promised) refl) (λ e.
      split (ReportedOk x) (is_done_at b x.vote) _ _ (λ u. reported_nothing) (λ u.
      reported_limited own _ (reported_voted (not_committed b x.vote u) (voted b PreAccepted (with_attrs d (join d.attrs own))) from (PreAcceptOk i b (join d.attrs own)) refl refl)))

  reported_accept : (from b : ℕ) (d : Decree) → Reported x (on_accept i from b d x)
  reported_accept from b d =
      split (Reported x) (ltb b x.promised) _ _ (λ e. reported_answered from (Nack i b x.promised) refl) (λ e.
      split (Reported x) (is_settled_at b x.vote) _ _ (λ u. reported_nothing) (λ u.
      reported_voted (not_settled b x.vote u) (voted b Accepted d) from (AcceptOk i b) refl refl))

  reported_slow : Live → (b : ℕ) (answers : Answers Attrs) (v : Option Vote) → Reported x (slow_path f i me b answers v)
  reported_slow live b answers None = reported_nothing
  reported_slow live b answers (Some v) = reported_accept_phase live b _

  reported_fast : Live → (a : Attrs) (v : Option Vote) → Reported x (fast_path f i me a x v)
  reported_fast live a None = reported_nothing
  reported_fast live a (Some v) = reported_commit_phase live _

  reported_count_pre_accept_ok : Live → (b s : ℕ) (a : Attrs) (answers : Answers Attrs) → Reported x (count_pre_accept_ok f i me b s a answers x)
  reported_count_pre_accept_ok live b s a answers =
      split (Reported x) (eqb b (leader_of i)) _ _
      (λ e. split (Reported x) (fast_answered f (leader_of i) s answers) _ _
      (λ e. split (Reported x) (all_equal f a answers) _ _ (λ e. reported_fast live a x.vote) (λ e. reported_slow live b answers x.vote))
      (λ e. reported_kept (Proposing b s answers)))
      (λ e. split (Reported x) (leb f (others f me answers)) _ _ (λ e. reported_slow live b answers x.vote) (λ e. reported_kept (Proposing b s answers)))

  reported_pre_accept_ok : (from b : ℕ) (a : Attrs) (led : Option LedInstance) → Reported x (on_pre_accept_ok f i me from b a x led)
  reported_pre_accept_ok from b a None = reported_nothing
  reported_pre_accept_ok from b a (Some (Accepting lb answers)) = reported_nothing
  reported_pre_accept_ok from b a (Some (Preparing lb answers)) = reported_nothing
  reported_pre_accept_ok from b a (Some (Proposing lb s answers)) =
      split (λ more. Reported x (use_pre_accept_ok f i me b a x more)) (is_some (answer answers from)) _ _ (λ e. reported_nothing) (λ e.
      split (Reported x) (is_usable b x lb) _ _ (λ u. reported_count_pre_accept_ok (usable b x lb u).2 b s a (with_answer answers from a)) (λ u. reported_nothing))

  pub reported_give_up : (led : Option LedInstance) → ReportedOk x (give_up f i me x led)
  reported_give_up None = tt
  reported_give_up (Some (Accepting b answers)) = tt
  reported_give_up (Some (Preparing b answers)) = tt
  reported_give_up (Some (Proposing b s answers)) =
      split (ReportedOk x) (is_usable (leader_of i) x b) _ _
      (λ u. split (ReportedOk x) (leb f (others f me answers)) _ _ (λ m. reported_slow (usable (leader_of i) x b u).2 b answers x.vote) (λ m. tt))
      (λ u. tt)

  reported_commit_own : Live → (v : Option Vote) → Reported x (commit_own f i me x v)
  reported_commit_own live None = reported_nothing
  reported_commit_own live (Some v) = reported_commit_phase live v.decree

  reported_accept_ok : (from b : ℕ) (led : Option LedInstance) → Reported x (on_accept_ok f i me from b x led)
  reported_accept_ok from b None = reported_nothing
  reported_accept_ok from b (Some (Proposing lb s answers)) = reported_nothing
  reported_accept_ok from b (Some (Preparing lb answers)) = reported_nothing
  reported_accept_ok from b (Some (Accepting lb answers)) =
      split (λ more. Reported x (use_accept_ok f i me b x more)) (is_some (answer answers from)) _ _ (λ e. reported_nothing) (λ e.
      split (Reported x) (is_usable b x lb) _ _
      (λ u. split (Reported x) (leb f (others f me (with_answer answers from tt))) _ _ (λ m. reported_commit_own (usable b x lb u).2 x.vote) (λ m. reported_kept (Accepting b (with_answer answers from tt))))
      (λ u. reported_nothing))

  pub reported_recover : (reported : ℕ) → ReportedOk x (recover f i me x reported)
  reported_recover reported =
      split (ReportedOk x) (is_committed x.vote) _ _ (λ e. tt) (λ e.
      split (ReportedOk x) (leb (next_counter x reported) highest_counter) _ _
      (λ u. e ∙ reported_asked e (is_other me) (Prepare i (ballot_of (next_counter x reported) me)) refl)
      (λ u. tt))

  reported_prepare : (from b : ℕ) → Reported x (on_prepare i from b x)
  reported_prepare from b =
      split (Reported x) (ltb b x.promised) _ _ (λ e. reported_answered from (Nack i b x.promised) refl) (λ e.
      split (Reported x) (eqb b x.promised) _ _ (λ u. reported_nothing) (λ u. reported_same (record { promised = b; vote = x.vote }) from (PrepareOk i b x.vote) refl refl))

  reported_recover_with : Live → (b : ℕ) (c : Command) (own : Attrs) → ReportedOk x (recover_with f i me b c own)
  reported_recover_with live b c own = reported_limited own _ (reported_first_phase live (is_other me) b me (record { command = c; attrs = own }))

  reported_choice : Live → (b : ℕ) (own : Command → Attrs) (ch : Choice) → ReportedOk x (act_on f i me b own x ch)
  reported_choice live b own (CommitIt d) = reported_commit_phase live d
  reported_choice live b own (AcceptIt d) = reported_accept_phase live b d
  reported_choice live b own (AcceptFast d) = reported_accept_phase live b d
  reported_choice live b own (ProposeIt c) = reported_recover_with live b c (own c)
  reported_choice live b own ProposeNoop = reported_recover_with live b Noop (own Noop)

  reported_count_prepare_ok : Live → (b : ℕ) (answers : Answers (Option Vote)) (own : Command → Attrs) → ReportedOk x (count_prepare_ok f i me b answers own x)
  reported_count_prepare_ok live b answers own =
      split (ReportedOk x) (leb (f + 1) (answered_all f answers)) _ _ (λ m. reported_choice live b own (choose f (leader_of i) (λ q. answer answers q))) (λ m. reported_kept (Preparing b answers))

  reported_prepare_ok : (from b : ℕ) (v : Option Vote) (own : Command → Attrs) (led : Option LedInstance) → ReportedOk x (on_prepare_ok f i me from b v own x led)
  reported_prepare_ok from b v own None = reported_nothing
  reported_prepare_ok from b v own (Some (Proposing lb s answers)) = reported_nothing
  reported_prepare_ok from b v own (Some (Accepting lb answers)) = reported_nothing
  reported_prepare_ok from b v own (Some (Preparing lb answers)) =
      split (λ more. ReportedOk x (use_prepare_ok f i me b own x more)) (is_some (answer answers from)) _ _ (λ e. reported_nothing) (λ e.
      split (ReportedOk x) (is_usable b x lb) _ _ (λ u. reported_count_prepare_ok (usable b x lb u).2 b (with_answer answers from v) own) (λ u. reported_nothing))

-- Events.

-- a Commit that is handled leaves the instance committed
committed_on : (i : ℕ) (d : Decree) (x : Record) → after_entry x (on_commit i d x).entry ≡ true
committed_on i d x = split (λ (ch : Change). after_entry x ch.entry ≡ true) (is_committed x.vote) _ _ (λ e. e) (λ e. refl)

-- it is committed after an event exactly where it was, or a Commit was handled, or Commits are sent
abbrev pub CommitOk : Record → Bool → Outcome → Type 0
CommitOk x commit (Ok ch) = after_entry x ch.entry ≡ (is_committed x.vote || (commit || says_commit ch.out))
CommitOk x commit (Err e) = Unit {0}

pub of_reported : (x : Record) (o : Outcome) → ReportedOk x o → CommitOk x false o
of_reported x (Ok ch) reported = reported
of_reported x (Err e) reported = tt

or_true : (b c : Bool) → (b || (true || c)) ≡ true
or_true true c = refl
or_true false c = refl

pub handled_reported : (f me from : ℕ) (s : State) (m : Message) → 0 < f → CommitOk (record_in s (instance_of_message m)) (is_commit_message m) (handled f me from s m)
handled_reported f me from s (PreAccept i b x) more =
    let own = interference s.records i x.command in
    of_reported (record_in s i) (on_pre_accept i from b x own (record_in s i)) (reported_pre_accept f i me (record_in s i) more from b x own)
handled_reported f me from s (PreAcceptOk i b a) more =
    of_reported (record_in s i) (Ok (on_pre_accept_ok f i me from b a (record_in s i) (get s.leads i))) (reported_pre_accept_ok f i me (record_in s i) more from b a (get s.leads i))
handled_reported f me from s (Accept i b x) more = of_reported (record_in s i) (Ok (on_accept i from b x (record_in s i))) (reported_accept f i me (record_in s i) more from b x)
handled_reported f me from s (AcceptOk i b) more =
    of_reported (record_in s i) (Ok (on_accept_ok f i me from b (record_in s i) (get s.leads i))) (reported_accept_ok f i me (record_in s i) more from b (get s.leads i))
handled_reported f me from s (Commit i x) more = committed_on i x (record_in s i) ∙ sym (or_true (is_committed (record_in s i).vote) (says_commit (on_commit i x (record_in s i)).out))
handled_reported f me from s (Prepare i b) more = of_reported (record_in s i) (Ok (on_prepare i from b (record_in s i))) (reported_prepare f i me (record_in s i) more from b)
handled_reported f me from s (PrepareOk i b v) more =
    let own = interference s.records i in
    of_reported (record_in s i) (on_prepare_ok f i me from b v own (record_in s i) (get s.leads i)) (reported_prepare_ok f i me (record_in s i) more from b v own (get s.leads i))
handled_reported f me from s (Nack i b p) more = of_reported (record_in s i) (Ok (on_nack p (cell_in s i).reported)) (sym (or_false (is_committed (record_in s i).vote)))

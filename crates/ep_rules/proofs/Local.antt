-- What every step does, whatever the history: its messages are about its instance, and it leaves a committed vote as it is.
use Rattle.std.proofs.Common.{◌≡◌, ℕ, ◌+◌, ◌<◌, Bool, true, false, ◌&&◌, eqb, ltb, leb, Option, Some, None, is_some, is_none, Result, Ok, Err, refl, sym, ap, ◌∙◌}
use Rattle.std.proofs.lemmas.Bool.{or_left, false≢true}
use Rattle.ep_base.specs.Ballots.{ballot_of, highest_counter}
use Rattle.ep_base.specs.Instances.{instance_of, leader_of, highest_number}
use Rattle.ep_base.specs.Messages.{instance_of_message}
use Rattle.ep_base.specs.Quorums.{size, spared, is_fast}
use Rattle.ep_base.specs.declared.attrs.Attrs.{Attrs}
use Rattle.ep_base.specs.Commands.{Command, Noop}
use Rattle.ep_base.specs.declared.decree.Decree.{Decree}
use Rattle.ep_base.specs.declared.message.Message.{Message}
use Rattle.ep_base.specs.declared.message.Message.TheVariants.{PreAccept, PreAcceptOk, Accept, AcceptOk, Commit, Prepare, PrepareOk, Nack}
use Rattle.ep_base.specs.declared.vote.Vote.{Vote}
use Rattle.ep_rules.specs.Answers.{Answers, answer, with_answer}
use Rattle.ep_rules.specs.Cells.{is_accept, is_commit, is_committed, is_done_at, is_settled_at, Change, nothing, answered, recorded, kept, record_or_fresh, Refusal}
use Rattle.ep_rules.specs.Counting.{is_other}
use Rattle.ep_rules.specs.InterferenceSet.{interference}
use Rattle.ep_rules.specs.Maps.{Map, get}
use Rattle.ep_rules.specs.Phases.{Outcome, limited, first_phase, accept_phase, commit_phase, propose, on_pre_accept, on_accept, on_commit, is_usable, others, fast_answered, all_equal, slow_path, fast_path, count_pre_accept_ok, use_pre_accept_ok, on_pre_accept_ok, give_up, commit_own, use_accept_ok, on_accept_ok}
use Rattle.ep_rules.specs.Recovery.{Choice, CommitIt, AcceptIt, AcceptFast, ProposeIt, ProposeNoop, choose, recover_with, act_on, next_counter, recover, on_prepare, answered_all, count_prepare_ok, use_prepare_ok, on_prepare_ok}
use Rattle.ep_rules.specs.States.{State, cell_in, record_in, is_free, free_number}
use Rattle.ep_rules.specs.Steps.{Event, Propose, Handle, GiveUp, Recover, Execute, handled, at, proposed, acts}
use Rattle.ep_rules.specs.declared.led_instance.LedInstance.{LedInstance}
use Rattle.ep_rules.specs.declared.led_instance.LedInstance.TheVariants.{Proposing, Accepting, Preparing}
use Rattle.ep_rules.specs.declared.record.Record.{Record}
use Rattle.ep_rules.proofs.Counting.{least_some}
use Rattle.ep_rules.proofs.Keeping.{AllSent, sent_to_those, split}
use Rattle.ep_rules.proofs.Leading.{usable}

abbrev pub SameVote : Record → Option Record → Type 0
SameVote x None = Unit {0}
SameVote x (Some y) = y.vote ≡ x.vote

pub record Local (i : ℕ) (x : Record) (ch : Change) : Type 0 where
  pub about : AllSent (λ to m. instance_of_message m ≡ i) ch.out
  pub stays : is_committed x.vote ≡ true → SameVote x ch.entry

abbrev pub LocalOk : ℕ → Record → Outcome → Type 0
LocalOk i x (Ok ch) = Local i x ch
LocalOk i x (Err e) = Unit {0}

-- Small changes.

done_at : (b : ℕ) (v : Option Vote) → is_done_at b v ≡ false → is_committed v ≡ true → ⊥
done_at b None e d = false≢true d
done_at b (Some v) e d = false≢true (sym e ∙ or_left (is_commit v.status) (eqb v.ballot b) d)

settled_at : (b : ℕ) (v : Option Vote) → is_settled_at b v ≡ false → is_committed v ≡ true → ⊥
settled_at b None e d = false≢true d
settled_at b (Some v) e d = false≢true (sym e ∙ or_left (is_commit v.status) (is_accept v.status && eqb v.ballot b) d)

module _ (f i me : ℕ) (x : Record) where
  abbrev Live : Type 0
  Live = is_committed x.vote ≡ false

  local_nothing : Local i x nothing
  local_nothing = record { about = tt; stays = λ d. tt }

  local_answered : (from : ℕ) (m : Message) → instance_of_message m ≡ i → Local i x (answered from m)
  local_answered from m e = record { about = (e, tt); stays = λ d. tt }

  local_kept : (led : LedInstance) → Local i x (kept led)
  local_kept led = record { about = tt; stays = λ d. tt }

  local_recorded : (y : Record) (from : ℕ) (m : Message) → instance_of_message m ≡ i → (is_committed x.vote ≡ true → y.vote ≡ x.vote) → Local i x (recorded y from m)
  local_recorded y from m e same = record { about = (e, tt); stays = same }

  local_first_phase : Live → (asked : ℕ → Bool) (b s : ℕ) (d : Decree) → Local i x (first_phase asked f i b s d)
  local_first_phase live asked b s d = record { about = sent_to_those _ asked (size f) (PreAccept i b d) (λ k lt e. refl); stays = λ done. absurd (false≢true (sym live ∙ done)) }

  local_accept_phase : Live → (b : ℕ) (d : Decree) → Local i x (accept_phase f i me b d)
  local_accept_phase live b d = record { about = sent_to_those _ (is_other me) (size f) (Accept i b d) (λ k lt e. refl); stays = λ done. absurd (false≢true (sym live ∙ done)) }

  local_commit_phase : Live → (d : Decree) → Local i x (commit_phase f i me d x)
  local_commit_phase live d = record { about = sent_to_those _ (is_other me) (size f) (Commit i d) (λ k lt e. refl); stays = λ done. absurd (false≢true (sym live ∙ done)) }

  local_limited : (a : Attrs) (ch : Change) → Local i x ch → LocalOk i x (limited a ch)
  local_limited a ch p = split (LocalOk i x) (leb a.seq 1000000) _ _ (λ e. p) (λ e. tt)

  -- The events.

  local_propose : Live → (s : ℕ) (c : Command) (own : Attrs) → LocalOk i x (propose f i s c own)
  local_propose live s c own = local_limited own (first_phase (is_fast (leader_of i) s) f i (leader_of i) s (record { command = c; attrs = own })) (local_first_phase live (is_fast (leader_of i) s) (leader_of i) s (record { command = c; attrs = own }))

  local_pre_accept : (from b : ℕ) (d : Decree) (own : Attrs) → LocalOk i x (on_pre_accept i from b d own x)
  local_pre_accept from b d own =
      split (LocalOk i x) (ltb b x.promised) _ _ (λ e. local_answered from _ refl) (λ e.
      split (LocalOk i x) (is_done_at b x.vote) _ _ (λ u. local_nothing) (λ u.
      local_limited own _ (local_recorded _ from _ refl (λ done. absurd (done_at b x.vote u done)))))

  local_accept : (from b : ℕ) (d : Decree) → Local i x (on_accept i from b d x)
  local_accept from b d =
      split (Local i x) (ltb b x.promised) _ _ (λ e. local_answered from _ refl) (λ e.
      split (Local i x) (is_settled_at b x.vote) _ _ (λ u. local_nothing) (λ u.
      local_recorded _ from _ refl (λ done. absurd (settled_at b x.vote u done))))

  local_commit : (d : Decree) → Local i x (on_commit i d x)
  local_commit d = split (Local i x) (is_committed x.vote) _ _ (λ e. local_nothing) (λ e. record { about = tt; stays = λ done. absurd (false≢true (sym e ∙ done)) })

  local_slow : Live → (b : ℕ) (answers : Answers Attrs) (v : Option Vote) → Local i x (slow_path f i me b answers v)
  local_slow live b answers None = local_nothing
  local_slow live b answers (Some v) = local_accept_phase live b _

  local_fast : Live → (a : Attrs) (v : Option Vote) → Local i x (fast_path f i me a x v)
  local_fast live a None = local_nothing
  local_fast live a (Some v) = local_commit_phase live _

  local_count_pre_accept_ok : Live → (b s : ℕ) (a : Attrs) (answers : Answers Attrs) → Local i x (count_pre_accept_ok f i me b s a answers x)
  local_count_pre_accept_ok live b s a answers =
      split (Local i x) (eqb b (leader_of i)) _ _
      (λ e. split (Local i x) (fast_answered f (leader_of i) s answers) _ _
      (λ e. split (Local i x) (all_equal f a answers) _ _ (λ e. local_fast live a x.vote) (λ e. local_slow live b answers x.vote))
      (λ e. local_kept (Proposing b s answers)))
      (λ e. split (Local i x) (leb f (others f me answers)) _ _ (λ e. local_slow live b answers x.vote) (λ e. local_kept (Proposing b s answers)))

  local_pre_accept_ok : (from b : ℕ) (a : Attrs) (led : Option LedInstance) → Local i x (on_pre_accept_ok f i me from b a x led)
  local_pre_accept_ok from b a None = local_nothing
  local_pre_accept_ok from b a (Some (Accepting lb answers)) = local_nothing
  local_pre_accept_ok from b a (Some (Preparing lb answers)) = local_nothing
  local_pre_accept_ok from b a (Some (Proposing lb s answers)) =
      split (λ more. Local i x (use_pre_accept_ok f i me b a x more)) (is_some (answer answers from)) _ _ (λ e. local_nothing) (λ e.
      split (Local i x) (is_usable b x lb) _ _ (λ u. local_count_pre_accept_ok (usable b x lb u).2 b s a (with_answer answers from a)) (λ u. local_nothing))

  local_give_up : (led : Option LedInstance) → LocalOk i x (give_up f i me x led)
  local_give_up None = tt
  local_give_up (Some (Accepting b answers)) = tt
  local_give_up (Some (Preparing b answers)) = tt
  local_give_up (Some (Proposing b s answers)) =
      split (LocalOk i x) (is_usable (leader_of i) x b) _ _
      (λ u. split (LocalOk i x) (leb f (others f me answers)) _ _ (λ m. local_slow (usable (leader_of i) x b u).2 b answers x.vote) (λ m. tt))
      (λ u. tt)

  local_commit_own : Live → (v : Option Vote) → Local i x (commit_own f i me x v)
  local_commit_own live None = local_nothing
  local_commit_own live (Some v) = local_commit_phase live v.decree

  local_accept_ok : (from b : ℕ) (led : Option LedInstance) → Local i x (on_accept_ok f i me from b x led)
  local_accept_ok from b None = local_nothing
  local_accept_ok from b (Some (Proposing lb s answers)) = local_nothing
  local_accept_ok from b (Some (Preparing lb answers)) = local_nothing
  local_accept_ok from b (Some (Accepting lb answers)) =
      split (λ more. Local i x (use_accept_ok f i me b x more)) (is_some (answer answers from)) _ _ (λ e. local_nothing) (λ e.
      split (Local i x) (is_usable b x lb) _ _
      (λ u. split (Local i x) (leb f (others f me (with_answer answers from tt))) _ _ (λ m. local_commit_own (usable b x lb u).2 x.vote) (λ m. local_kept (Accepting b (with_answer answers from tt))))
      (λ u. local_nothing))

  local_recover : (reported : ℕ) → LocalOk i x (recover f i me x reported)
  local_recover reported =
      split (LocalOk i x) (is_committed x.vote) _ _ (λ e. tt) (λ e.
      split (LocalOk i x) (leb (next_counter x reported) highest_counter) _ _
      (λ u. record { about = sent_to_those _ (is_other me) (size f) (Prepare i (ballot_of (next_counter x reported) me)) (λ k lt e. refl); stays = λ done. refl })
      (λ u. tt))

  local_prepare : (from b : ℕ) → Local i x (on_prepare i from b x)
  local_prepare from b =
      split (Local i x) (ltb b x.promised) _ _ (λ e. local_answered from _ refl) (λ e.
      split (Local i x) (eqb b x.promised) _ _ (λ u. local_nothing) (λ u. local_recorded _ from _ refl (λ done. refl)))

  local_recover_with : Live → (b : ℕ) (c : Command) (own : Attrs) → LocalOk i x (recover_with f i me b c own)
  local_recover_with live b c own = local_limited own _ (local_first_phase live (is_other me) b me (record { command = c; attrs = own }))

  local_choice : Live → (b : ℕ) (own : Command → Attrs) (ch : Choice) → LocalOk i x (act_on f i me b own x ch)
  local_choice live b own (CommitIt d) = local_commit_phase live d
  local_choice live b own (AcceptIt d) = local_accept_phase live b d
  local_choice live b own (AcceptFast d) = local_accept_phase live b d
  local_choice live b own (ProposeIt c) = local_recover_with live b c (own c)
  local_choice live b own ProposeNoop = local_recover_with live b Noop (own Noop)

  local_count_prepare_ok : Live → (b : ℕ) (answers : Answers (Option Vote)) (own : Command → Attrs) → LocalOk i x (count_prepare_ok f i me b answers own x)
  local_count_prepare_ok live b answers own =
      split (LocalOk i x) (leb (f + 1) (answered_all f answers)) _ _ (λ m. local_choice live b own (choose f (leader_of i) (λ q. answer answers q))) (λ m. local_kept (Preparing b answers))

  local_prepare_ok : (from b : ℕ) (v : Option Vote) (own : Command → Attrs) (led : Option LedInstance) → LocalOk i x (on_prepare_ok f i me from b v own x led)
  local_prepare_ok from b v own None = local_nothing
  local_prepare_ok from b v own (Some (Proposing lb s answers)) = local_nothing
  local_prepare_ok from b v own (Some (Accepting lb answers)) = local_nothing
  local_prepare_ok from b v own (Some (Preparing lb answers)) =
      split (λ more. LocalOk i x (use_prepare_ok f i me b own x more)) (is_some (answer answers from)) _ _ (λ e. local_nothing) (λ e.
      split (LocalOk i x) (is_usable b x lb) _ _ (λ u. local_count_prepare_ok (usable b x lb u).2 b (with_answer answers from v) own) (λ u. local_nothing))

-- Events.

pub none_of : {X : Type 0} (o : Option X) → is_none o ≡ true → o ≡ None
none_of None e = refl
none_of (Some x) e = absurd (cc)

-- the number that a proposal takes is one of an instance without a record
pub free_found : (records : Map Record) (me n : ℕ) → free_number records me ≡ Some n → (n < highest_number) × (get records (instance_of me (n + 1)) ≡ None)
unfolding free_number
free_found records me n e = let t = least_some highest_number (is_free records me) n e in (t.0, none_of _ t.1)

abbrev pub LocalAct : State → Result (ℕ × Change) Refusal → Type 0
LocalAct s (Ok p) = Local p.0 (record_in s p.0) p.1
LocalAct s (Err e) = Unit {0}

local_at : (s : State) (i : ℕ) (o : Outcome) → LocalOk i (record_in s i) o → LocalAct s (at i o)
local_at s i (Ok ch) p = p
local_at s i (Err e) p = tt

local_handled : (f me from : ℕ) (s : State) (m : Message) → LocalOk (instance_of_message m) (record_in s (instance_of_message m)) (handled f me from s m)
local_handled f me from s (PreAccept i b x) = local_pre_accept f i me (record_in s i) from b x (interference s.records i x.command)
local_handled f me from s (PreAcceptOk i b a) = local_pre_accept_ok f i me (record_in s i) from b a (get s.leads i)
local_handled f me from s (Accept i b x) = local_accept f i me (record_in s i) from b x
local_handled f me from s (AcceptOk i b) = local_accept_ok f i me (record_in s i) from b (get s.leads i)
local_handled f me from s (Commit i x) = local_commit f i me (record_in s i) x
local_handled f me from s (Prepare i b) = local_prepare f i me (record_in s i) from b
local_handled f me from s (PrepareOk i b v) = local_prepare_ok f i me (record_in s i) from b v (interference s.records i) (get s.leads i)
local_handled f me from s (Nack i b p) = record { about = tt; stays = λ done. tt }

local_proposed : (f me q : ℕ) (s : State) (c : Command) (n : Option ℕ) → free_number s.records me ≡ n → LocalAct s (proposed f me q s c n)
local_proposed f me q s c None e = tt
local_proposed f me q s c (Some n) e =
    let i = instance_of me (n + 1) in
    local_at s i _ (local_propose f i me (record_in s i) (ap (λ o. is_committed (record_or_fresh i o).vote) (free_found s.records me n e).1) q c (interference s.records i c))

pub local_acts : (f me : ℕ) (s : State) (e : Event) → LocalAct s (acts f me s e)
local_acts f me s (Propose client request c seen named) = local_proposed f me (spared f me named) s c (free_number s.records me) refl
local_acts f me s (Handle m) = local_at s (instance_of_message m.sent.message) _ (local_handled f me m.sent.from s m.sent.message)
local_acts f me s (GiveUp i) = local_at s i _ (local_give_up f i me (record_in s i) (get s.leads i))
local_acts f me s (Recover i) = local_at s i _ (local_recover f i me (record_in s i) (cell_in s i).reported)
local_acts f me s (Execute root) = local_nothing f root me (record_in s root)

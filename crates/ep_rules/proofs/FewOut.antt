-- A step sends no more messages than there are replicas.
use Rattle.std.proofs.Common.{◌≡◌, ℕ, zero, suc, ◌+◌, ◌≤◌, Bool, true, false, cond, eqb, ltb, leb, List, [], ◌∷◌, length, Option, Some, None, Result, Ok, Err, refl, ap, sym, subst, arith}
use Rattle.std.proofs.lemmas.List.{length-append}
use Rattle.ep_base.specs.Attributes.{join}
use Rattle.ep_base.specs.Ballots.{ballot_of, highest_counter}
use Rattle.ep_base.specs.Instances.{instance_of, leader_of}
use Rattle.ep_base.specs.Messages.{instance_of_message}
use Rattle.ep_base.specs.Quorums.{size, spared, is_fast}
use Rattle.ep_base.specs.declared.attrs.Attrs.{Attrs}
use Rattle.ep_base.specs.Commands.{Command, Noop}
use Rattle.ep_base.specs.declared.message.Message.{Message}
use Rattle.ep_base.specs.declared.message.Message.TheVariants.{PreAccept, PreAcceptOk, Accept, AcceptOk, Commit, Prepare, PrepareOk, Nack}
use Rattle.ep_base.specs.declared.vote.VoteStatus.TheVariants.{PreAccepted, Accepted}
use Rattle.ep_base.specs.declared.vote.Vote.{Vote}
use Rattle.ep_rules.specs.Answers.{Answers, answer}
use Rattle.ep_rules.specs.Cells.{Change, is_committed, is_done_at, is_settled_at, nothing, answered, recorded, kept, voted, Refusal, TooFewAnswers, AlreadyCommitted, BallotsExhausted}
use Rattle.ep_rules.specs.Counting.{to_those, is_other}
use Rattle.ep_rules.specs.Counts.{SendsFew}
use Rattle.ep_rules.specs.InterferenceSet.{interference}
use Rattle.ep_rules.specs.Maps.{get}
use Rattle.ep_rules.specs.Phases.{Outcome, with_attrs, with_commit, is_usable, others, fast_answered, all_equal, limited, propose, slow_path, fast_path, count_pre_accept_ok, use_pre_accept_ok, more_proposing, give_up, commit_own, use_accept_ok, more_accepting}
use Rattle.ep_rules.specs.Recovery.{answered_all, next_counter, prepare_phase, Choice, CommitIt, AcceptIt, AcceptFast, ProposeIt, ProposeNoop, act_on, recover, use_prepare_ok, more_preparing, choose}
use Rattle.ep_rules.specs.States.{State, cell_in, record_in, free_number}
use Rattle.ep_rules.specs.Steps.{Event, Propose, Handle, GiveUp, Recover, Execute, at, handled, proposed, acts, sends, sent_by, sent_from}
use Rattle.ep_rules.specs.declared.led_instance.LedInstance.{LedInstance}
use Rattle.ep_rules.specs.declared.led_instance.LedInstance.TheVariants.{Proposing, Accepting, Preparing}
use Rattle.ep_rules.specs.declared.record.Record.{Record}

abbrev Small : ℕ → List (ℕ × Message) → Type 0
Small n out = length out ≤ n

abbrev FewIn : ℕ → Outcome → Type 0
FewIn f (Ok ch) = length ch.out ≤ size f
FewIn f (Err e) = Unit {0}

abbrev FewAt : ℕ → Result (ℕ × Change) Refusal → Type 0
FewAt f (Ok p) = length p.1.out ≤ size f
FewAt f (Err e) = Unit {0}

either : (f : ℕ) (t : Bool) (x y : Change) → length x.out ≤ size f → length y.out ≤ size f → length (cond t x y).out ≤ size f
either f true x y p q = p
either f false x y p q = q

either_outcome : (f : ℕ) (t : Bool) (x y : Outcome) → FewIn f x → FewIn f y → FewIn f (cond t x y)
either_outcome f true x y p q = p
either_outcome f false x y p q = q

at_most_one : (b : Bool) (n : ℕ) (m : Message) → Small 1 (cond b ((n, m) ∷ []) [])
at_most_one true n m = omega arith
at_most_one false n m = omega arith

those_few : (p : ℕ → Bool) (n : ℕ) (m : Message) → length (to_those p n m) ≤ n
those_few p zero m = omega arith
those_few p (suc n) m =
    let rest : length (to_those p n m) ≤ n = those_few p n m in
    let last : List (ℕ × Message) = cond (p n) ((n, m) ∷ []) [] in
    let more : length last ≤ 1 = at_most_one (p n) n m in
    omega (arith, length-append (to_those p n m) last)

few : (f : ℕ) (p : ℕ → Bool) (m : Message) → length (to_those p (size f) m) ≤ size f
few f p m = let h : length (to_those p (size f) m) ≤ size f = those_few p (size f) m in omega arith

one_out : (f : ℕ) → 1 ≤ size f
one_out f = omega arith

none_out : (f : ℕ) → Small (size f) []
none_out f = omega arith

limited_few : (f : ℕ) (own : Attrs) (ch : Change) → length ch.out ≤ size f → FewIn f (limited own ch)
limited_few f own ch h = either_outcome f (leb own.seq 1000000) (Ok ch) _ h tt

slow_few : (f i me b : ℕ) (answers : Answers Attrs) (v : Option Vote) → length (slow_path f i me b answers v).out ≤ size f
slow_few f i me b answers None = none_out f
slow_few f i me b answers (Some v) = few f (is_other me) _

fast_few : (f i me : ℕ) (a : Attrs) (r : Record) (v : Option Vote) → length (fast_path f i me a r v).out ≤ size f
fast_few f i me a r None = none_out f
fast_few f i me a r (Some v) = few f (is_other me) _

count_few : (f i me b s : ℕ) (a : Attrs) (answers : Answers Attrs) (r : Record) → length (count_pre_accept_ok f i me b s a answers r).out ≤ size f
count_few f i me b s a answers r =
    let slow : length (slow_path f i me b answers r.vote).out ≤ size f = slow_few f i me b answers r.vote in
    either f (eqb b (leader_of i)) _ _
    (either f (fast_answered f (leader_of i) s answers) _ (kept (Proposing b s answers)) (either f (all_equal f a answers) _ _ (fast_few f i me a r r.vote) slow) (none_out f))
    (either f (leb f (others f me answers)) _ (kept (Proposing b s answers)) slow (none_out f))

pre_accept_ok_few : (f i me b : ℕ) (a : Attrs) (r : Record) (more : Option (ℕ × ℕ × Answers Attrs)) → length (use_pre_accept_ok f i me b a r more).out ≤ size f
pre_accept_ok_few f i me b a r None = none_out f
pre_accept_ok_few f i me b a r (Some more) = either f (is_usable b r more.0) _ nothing (count_few f i me b more.1 a more.2 r) (none_out f)

give_up_few : (f i me : ℕ) (r : Record) (led : Option LedInstance) → FewIn f (give_up f i me r led)
give_up_few f i me r None = tt
give_up_few f i me r (Some (Proposing b s answers)) =
    either_outcome f (is_usable (leader_of i) r b) _ _ (either_outcome f (leb f (others f me answers)) (Ok (slow_path f i me b answers r.vote)) (Err TooFewAnswers) (slow_few f i me b answers r.vote) tt) tt
give_up_few f i me r (Some (Accepting b answers)) = tt
give_up_few f i me r (Some (Preparing b answers)) = tt

own_few : (f i me : ℕ) (r : Record) (v : Option Vote) → length (commit_own f i me r v).out ≤ size f
own_few f i me r None = none_out f
own_few f i me r (Some v) = few f (is_other me) _

accept_ok_few : (f i me b : ℕ) (r : Record) (more : Option (ℕ × Answers (Unit {0}))) → length (use_accept_ok f i me b r more).out ≤ size f
accept_ok_few f i me b r None = none_out f
accept_ok_few f i me b r (Some more) =
    either f (is_usable b r more.0) _ nothing (either f (leb f (others f me more.1)) (commit_own f i me r r.vote) (kept (Accepting b more.1)) (own_few f i me r r.vote) (none_out f)) (none_out f)

act_few : (f i me b : ℕ) (own : Command → Attrs) (r : Record) (choice : Choice) → FewIn f (act_on f i me b own r choice)
act_few f i me b own r (CommitIt x) = few f (is_other me) _
act_few f i me b own r (AcceptIt x) = few f (is_other me) _
act_few f i me b own r (AcceptFast x) = few f (is_other me) _
act_few f i me b own r (ProposeIt c) = limited_few f (own c) _ (few f (is_other me) _)
act_few f i me b own r ProposeNoop = limited_few f (own Noop) _ (few f (is_other me) _)

prepare_ok_few : (f i me b : ℕ) (own : Command → Attrs) (r : Record) (more : Option (ℕ × Answers (Option Vote))) → FewIn f (use_prepare_ok f i me b own r more)
prepare_ok_few f i me b own r None = none_out f
prepare_ok_few f i me b own r (Some more) =
    either_outcome f (is_usable b r more.0) _ (Ok nothing)
    (either_outcome f (leb (f + 1) (answered_all f more.1)) (act_on f i me b own r (choose f (leader_of i) (λ q. answer more.1 q))) (Ok (kept (Preparing b more.1))) (act_few f i me b own r _) (none_out f))
    (none_out f)

handled_few : (f me from : ℕ) (s : State) (m : Message) → FewIn f (handled f me from s m)
handled_few f me from s (PreAccept i b x) =
    let r : Record = record_in s i in
    let own : Attrs = interference s.records i x.command in
    either_outcome f (ltb b r.promised) (Ok (answered from (Nack i b r.promised))) _ (one_out f)
    (either_outcome f (is_done_at b r.vote) (Ok nothing) _ (none_out f) (limited_few f own (recorded (voted b PreAccepted (with_attrs x (join x.attrs own))) from (PreAcceptOk i b (join x.attrs own))) (one_out f)))
handled_few f me from s (PreAcceptOk i b a) = pre_accept_ok_few f i me b a (record_in s i) (more_proposing from a (get s.leads i))
handled_few f me from s (Accept i b x) =
    let r : Record = record_in s i in
    either f (ltb b r.promised) (answered from (Nack i b r.promised)) _ (one_out f)
    (either f (is_settled_at b r.vote) nothing (recorded (voted b Accepted x) from (AcceptOk i b)) (none_out f) (one_out f))
handled_few f me from s (AcceptOk i b) = accept_ok_few f i me b (record_in s i) (more_accepting from (get s.leads i))
handled_few f me from s (Commit i x) =
    either f (is_committed (record_in s i).vote) nothing (record { entry = Some (with_commit i (record_in s i) x); led = Some None; reported = None; out = [] }) (none_out f) (none_out f)
handled_few f me from s (Prepare i b) =
    let r : Record = record_in s i in
    either f (ltb b r.promised) (answered from (Nack i b r.promised)) _ (one_out f)
    (either f (eqb b r.promised) nothing (recorded (record { promised = b; vote = r.vote }) from (PrepareOk i b r.vote)) (none_out f) (one_out f))
handled_few f me from s (PrepareOk i b v) = prepare_ok_few f i me b (interference s.records i) (record_in s i) (more_preparing from v (get s.leads i))
handled_few f me from s (Nack i b p) = none_out f

placed_few : (f i : ℕ) (o : Outcome) → FewIn f o → FewAt f (at i o)
placed_few f i (Ok ch) h = h
placed_few f i (Err e) h = tt

proposed_few : (f me q : ℕ) (s : State) (c : Command) (n : Option ℕ) → FewAt f (proposed f me q s c n)
proposed_few f me q s c None = tt
proposed_few f me q s c (Some n) =
    let i : ℕ = instance_of me (n + 1) in
    placed_few f i (propose f i q c (interference s.records i c)) (limited_few f (interference s.records i c) _ (few f (is_fast (leader_of i) q) _))

recover_few : (f i me : ℕ) (r : Record) (reported : ℕ) → FewIn f (recover f i me r reported)
recover_few f i me r reported =
    either_outcome f (is_committed r.vote) (Err AlreadyCommitted) _ tt
    (either_outcome f (leb (next_counter r reported) highest_counter) (Ok (prepare_phase f i me (ballot_of (next_counter r reported) me) r)) (Err BallotsExhausted) (few f (is_other me) _) tt)

acts_few : (f me : ℕ) (s : State) (e : Event) → FewAt f (acts f me s e)
acts_few f me s (Propose client request c seen named) = proposed_few f me (spared f me named) s c (free_number s.records me)
acts_few f me s (Handle m) = placed_few f (instance_of_message m.sent.message) _ (handled_few f me m.sent.from s m.sent.message)
acts_few f me s (GiveUp i) = placed_few f i _ (give_up_few f i me (record_in s i) (get s.leads i))
acts_few f me s (Recover i) = placed_few f i _ (recover_few f i me (record_in s i) (cell_in s i).reported)
acts_few f me s (Execute root) = none_out f

as_many : (me : ℕ) (out : List (ℕ × Message)) → length (sent_from me out) ≡ length out
as_many me [] = refl
as_many me (m ∷ ms) = ap suc (as_many me ms)

sent_few : (f me : ℕ) (o : Result (ℕ × Change) Refusal) → FewAt f o → length (sent_by me o) ≤ size f
sent_few f me (Ok p) h = subst (λ n. n ≤ size f) (sym (as_many me p.1.out)) h
sent_few f me (Err e) h = omega arith

pub sends_few : (f me : ℕ) (s : State) (e : Event) → length (sends f me s e) ≤ size f
sends_few f me s e = sent_few f me (acts f me s e) (acts_few f me s e)

pub sends_few_lem : SendsFew
sends_few_lem = sends_few

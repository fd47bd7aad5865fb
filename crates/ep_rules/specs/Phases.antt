-- Phase 1, the accept phase and commit at one instance (EPaxos, figure 2; Sutra, 2019, for the two ballots).
-- f: how many replicas may fail; i: the instance; me: who acts; b: a ballot; x: a decree; r: the replica's record of i;
-- own: the attributes that the interference set gives the command at this replica; s: the replica that the fast quorum lacks.
use Rattle.std.specs.Prelude.{ℕ, zero, suc, Bool, false, ◌&&◌, ◌||◌, not, eqb, ltb, leb, cond, [], Option, Some, None, Result, Ok, Err, is_some}
use Rattle.ep_base.specs.Attributes.{join, same_attrs}
use Rattle.ep_base.specs.Instances.{leader_of}
use Rattle.ep_base.specs.Quorums.{size, is_fast}
use Rattle.ep_base.specs.declared.attrs.Attrs.{Attrs}
use Rattle.ep_base.specs.Commands.{Command}
use Rattle.ep_base.specs.declared.decree.Decree.{Decree}
use Rattle.ep_base.specs.declared.message.Message.TheVariants.{PreAccept, PreAcceptOk, Accept, AcceptOk, Commit, Nack}
use Rattle.ep_base.specs.declared.vote.VoteStatus.TheVariants.{PreAccepted, Accepted, Committed}
use Rattle.ep_base.specs.declared.vote.Vote.{Vote}
use Rattle.ep_rules.specs.Answers.{Answers, answer, with_answer}
use Rattle.ep_rules.specs.Cells.{voted_ballot, is_committed, is_done_at, is_settled_at, Change, nothing, answered, recorded, kept, voted, Refusal, NotLeading, TooFewAnswers, SeqExhausted}
use Rattle.ep_rules.specs.Counting.{count, every, to_those, is_other}
use Rattle.ep_rules.specs.declared.led_instance.LedInstance.{LedInstance}
use Rattle.ep_rules.specs.declared.led_instance.LedInstance.TheVariants.{Proposing, Accepting, Preparing}
use Rattle.ep_rules.specs.declared.record.Record.{Record}

-- what an event changes, or why it is refused
abbrev pub Outcome : Type 0
Outcome = Result Change Refusal

-- refused where the sequence number would pass the greatest one
abbrev pub limited : Attrs → Change → Outcome
limited own ch = cond (leb own.seq 1000000) (Ok ch) (Err SeqExhausted)

-- The phases that a leader begins.

-- phase 1 at b: the leader votes itself, and asks those that pass; s is kept
abbrev pub first_phase : (ℕ → Bool) → ℕ → ℕ → ℕ → ℕ → Decree → Change
first_phase asked f i b s x = record { entry = Some (voted b PreAccepted x); led = Some (Some (Proposing b s [])); reported = None; out = to_those asked (size f) (PreAccept i b x) }

-- the accept phase at b: the leader accepts, and asks all others to
abbrev pub accept_phase : ℕ → ℕ → ℕ → ℕ → Decree → Change
accept_phase f i me b x = record { entry = Some (voted b Accepted x); led = Some (Some (Accepting b [])); reported = None; out = to_those (is_other me) (size f) (Accept i b x) }

-- a commit leaves both ballots as they are
abbrev pub with_commit : ℕ → Record → Decree → Record
with_commit i r x = record { promised = r.promised; vote = Some (record { status = Committed; ballot = voted_ballot i r.vote; decree = x }) }

-- the leader commits, leads the instance no longer, and informs all others
abbrev pub commit_phase : ℕ → ℕ → ℕ → Decree → Record → Change
commit_phase f i me x r = record { entry = Some (with_commit i r x); led = Some None; reported = None; out = to_those (is_other me) (size f) (Commit i x) }

-- The events.

-- a command is proposed as an instance of one's own, of which nothing is recorded; the leader asks all others but s
abbrev pub propose : ℕ → ℕ → ℕ → Command → Attrs → Outcome
propose f i s c own = limited own (first_phase (is_fast (leader_of i) s) f i (leader_of i) s (record { command = c; attrs = own }))

abbrev pub with_attrs : Decree → Attrs → Decree
with_attrs x a = record { command = x.command; attrs = a }

abbrev pub on_pre_accept : ℕ → ℕ → ℕ → Decree → Attrs → Record → Outcome
on_pre_accept i from b x own r =
    cond (ltb b r.promised) (Ok (answered from (Nack i b r.promised)))
    (cond (is_done_at b r.vote) (Ok nothing)
    (limited own (recorded (voted b PreAccepted (with_attrs x (join x.attrs own))) from (PreAcceptOk i b (join x.attrs own)))))

abbrev pub on_accept : ℕ → ℕ → ℕ → Decree → Record → Change
on_accept i from b x r =
    cond (ltb b r.promised) (answered from (Nack i b r.promised))
    (cond (is_settled_at b r.vote) nothing
    (recorded (voted b Accepted x) from (AcceptOk i b)))

abbrev pub on_commit : ℕ → Decree → Record → Change
on_commit i x r =
    cond (is_committed r.vote) nothing
    (record { entry = Some (with_commit i r x); led = Some None; reported = None; out = [] })

-- may the leader of b still use an answer: it leads b, has promised no other ballot, and has not committed
abbrev pub is_usable : ℕ → Record → ℕ → Bool
is_usable b r led = eqb led b && (eqb r.promised b && not (is_committed r.vote))

-- how many besides me answered
abbrev pub others : {X : Type 0} → ℕ → ℕ → Answers X → ℕ
others f me answers = count (size f) (λ r. is_other me r && is_some (answer answers r))

-- all others of the fast quorum that lacks s answered
abbrev pub fast_answered : ℕ → ℕ → ℕ → Answers Attrs → Bool
fast_answered f l s answers = every (size f) (λ r. not (is_fast l s r) || is_some (answer answers r))

abbrev pub holds : {X : Type 0} → (X → Bool) → Option X → Bool
holds p None = false
holds p (Some x) = p x

-- each that answered did so with these attributes
abbrev pub all_equal : ℕ → Attrs → Answers Attrs → Bool
all_equal f a answers = every (size f) (λ r. not (is_some (answer answers r)) || holds (same_attrs a) (answer answers r))

-- joined with each answer of the replicas below n
abbrev pub join_some : Option Attrs → Attrs → Attrs
join_some None a = a
join_some (Some b) a = join b a

abbrev pub join_all : ℕ → Answers Attrs → Attrs → Attrs
join_all zero answers a = a
join_all (suc n) answers a = join_some (answer answers n) (join_all n answers a)

-- what the leader runs the accept phase with: its own vote's decree, joined with all answers
abbrev pub joined : ℕ → Answers Attrs → Decree → Decree
joined f answers x = with_attrs x (join_all (size f) answers x.attrs)

-- (a leader of phase 1 that has promised no other ballot has voted there)
abbrev pub slow_path : ℕ → ℕ → ℕ → ℕ → Answers Attrs → Option Vote → Change
slow_path f i me b answers None = nothing
slow_path f i me b answers (Some v) = accept_phase f i me b (joined f answers v.decree)

abbrev pub fast_path : ℕ → ℕ → ℕ → Attrs → Record → Option Vote → Change
fast_path f i me a r None = nothing
fast_path f i me a r (Some v) = commit_phase f i me (with_attrs v.decree a) r

-- an answer has come in phase 1: at the default ballot all others of the fast quorum have to answer, and the same for the fast path;
-- at another one f others are enough, and there is no fast path
abbrev pub count_pre_accept_ok : ℕ → ℕ → ℕ → ℕ → ℕ → Attrs → Answers Attrs → Record → Change
count_pre_accept_ok f i me b s a answers r =
    cond (eqb b (leader_of i))
    (cond (fast_answered f (leader_of i) s answers)
    (cond (all_equal f a answers) (fast_path f i me a r r.vote) (slow_path f i me b answers r.vote))
    (kept (Proposing b s answers)))
    (cond (leb f (others f me answers)) (slow_path f i me b answers r.vote) (kept (Proposing b s answers)))

-- the ballot led in phase 1, the spared replica, and the answers with this one, if that replica has not answered yet
abbrev pub more_proposing : ℕ → Attrs → Option LedInstance → Option (ℕ × ℕ × Answers Attrs)
more_proposing from a None = None
more_proposing from a (Some (Proposing b s answers)) = cond (is_some (answer answers from)) None (Some (b, s, with_answer answers from a))
more_proposing from a (Some (Accepting b answers)) = None
more_proposing from a (Some (Preparing b answers)) = None

abbrev pub use_pre_accept_ok : ℕ → ℕ → ℕ → ℕ → Attrs → Record → Option (ℕ × ℕ × Answers Attrs) → Change
use_pre_accept_ok f i me b a r None = nothing
use_pre_accept_ok f i me b a r (Some more) = cond (is_usable b r more.0) (count_pre_accept_ok f i me b more.1 a more.2 r) nothing

abbrev pub on_pre_accept_ok : ℕ → ℕ → ℕ → ℕ → ℕ → Attrs → Record → Option LedInstance → Change
on_pre_accept_ok f i me from b a r led = use_pre_accept_ok f i me b a r (more_proposing from a led)

-- the leader waits no longer for the fast quorum
abbrev pub give_up_with : ℕ → ℕ → ℕ → ℕ → Answers Attrs → Record → Outcome
give_up_with f i me b answers r =
    cond (is_usable (leader_of i) r b)
    (cond (leb f (others f me answers)) (Ok (slow_path f i me b answers r.vote)) (Err TooFewAnswers))
    (Err NotLeading)

abbrev pub give_up : ℕ → ℕ → ℕ → Record → Option LedInstance → Outcome
give_up f i me r None = Err NotLeading
give_up f i me r (Some (Proposing b s answers)) = give_up_with f i me b answers r
give_up f i me r (Some (Accepting b answers)) = Err NotLeading
give_up f i me r (Some (Preparing b answers)) = Err NotLeading

abbrev pub commit_own : ℕ → ℕ → ℕ → Record → Option Vote → Change
commit_own f i me r None = nothing
commit_own f i me r (Some v) = commit_phase f i me v.decree r

-- with f others that accepted the leader commits
abbrev pub count_accept_ok : ℕ → ℕ → ℕ → ℕ → Answers (Unit {0}) → Record → Change
count_accept_ok f i me b answers r = cond (leb f (others f me answers)) (commit_own f i me r r.vote) (kept (Accepting b answers))

abbrev pub more_accepting : ℕ → Option LedInstance → Option (ℕ × Answers (Unit {0}))
more_accepting from None = None
more_accepting from (Some (Proposing b s answers)) = None
more_accepting from (Some (Accepting b answers)) = cond (is_some (answer answers from)) None (Some (b, with_answer answers from tt))
more_accepting from (Some (Preparing b answers)) = None

abbrev pub use_accept_ok : ℕ → ℕ → ℕ → ℕ → Record → Option (ℕ × Answers (Unit {0})) → Change
use_accept_ok f i me b r None = nothing
use_accept_ok f i me b r (Some more) = cond (is_usable b r more.0) (count_accept_ok f i me b more.1 r) nothing

abbrev pub on_accept_ok : ℕ → ℕ → ℕ → ℕ → ℕ → Record → Option LedInstance → Change
on_accept_ok f i me from b r led = use_accept_ok f i me b r (more_accepting from led)

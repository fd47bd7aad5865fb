-- Explicit prepare at one instance (EPaxos, figure 3; Sutra, 2019: the choice goes by the ballot of the last vote).
use Rattle.std.specs.Prelude.{ℕ, zero, suc, ◌+◌, max, Bool, false, ◌&&◌, eqb, ltb, leb, cond, [], Option, Some, None, Ok, Err, is_some}
use Rattle.ep_base.specs.Ballots.{ballot_of, counter_of, highest_counter}
use Rattle.ep_base.specs.Instances.{leader_of}
use Rattle.ep_base.specs.Quorums.{size}
use Rattle.ep_base.specs.Sameness.{same_decree}
use Rattle.ep_base.specs.declared.attrs.Attrs.{Attrs}
use Rattle.ep_base.specs.Commands.{Command, Noop}
use Rattle.ep_base.specs.declared.decree.Decree.{Decree}
use Rattle.ep_base.specs.declared.message.Message.TheVariants.{Prepare, PrepareOk, Nack}
use Rattle.ep_base.specs.declared.vote.Vote.{Vote}
use Rattle.ep_rules.specs.Answers.{Answers, answer, with_answer}
use Rattle.ep_rules.specs.Cells.{is_preaccept, is_accept, is_commit, is_committed, Change, nothing, answered, recorded, kept, AlreadyCommitted, BallotsExhausted}
use Rattle.ep_rules.specs.Counting.{count, least, to_those, is_other}
use Rattle.ep_rules.specs.Phases.{Outcome, limited, first_phase, accept_phase, commit_phase, is_usable}
use Rattle.ep_rules.specs.declared.led_instance.LedInstance.{LedInstance}
use Rattle.ep_rules.specs.declared.led_instance.LedInstance.TheVariants.{Proposing, Accepting, Preparing}
use Rattle.ep_rules.specs.declared.record.Record.{Record}

-- The choice among the answers of f+1 replicas, l being the instance's leader. An answer is a replica's last vote, or that it has not voted.

pub data Choice : Type 0 where
  -- some answer is committed
  CommitIt : (x : Decree) → Choice
  -- some answer of the greatest ballot is accepted
  AcceptIt : (x : Decree) → Choice
  -- f equal answers at the default ballot, none of them the leader's
  AcceptFast : (x : Decree) → Choice
  -- some answer of the greatest ballot is pre-accepted
  ProposeIt : (c : Command) → Choice
  ProposeNoop : Choice

-- the ballot of an answer: the default one where the replica has not voted
abbrev pub answered_ballot : ℕ → Option (Option Vote) → ℕ
answered_ballot l None = 0
answered_ballot l (Some None) = l
answered_ballot l (Some (Some v)) = v.ballot

-- the greatest ballot at which a replica below n voted
abbrev pub top_ballot : ℕ → ℕ → (ℕ → Option (Option Vote)) → ℕ
top_ballot l zero vote = 0
top_ballot l (suc n) vote = max (answered_ballot l (vote n)) (top_ballot l n vote)

-- the answer is a vote that passes
abbrev pub votes : (Vote → Bool) → Option (Option Vote) → Bool
votes p None = false
votes p (Some None) = false
votes p (Some (Some v)) = p v

abbrev pub did_commit : Vote → Bool
did_commit v = is_commit v.status

abbrev pub did_accept_at : ℕ → Vote → Bool
did_accept_at b v = is_accept v.status && eqb v.ballot b

abbrev pub did_preaccept_at : ℕ → Vote → Bool
did_preaccept_at b v = is_preaccept v.status && eqb v.ballot b

abbrev pub did_preaccept_this : ℕ → Decree → Vote → Bool
did_preaccept_this b x v = did_preaccept_at b v && same_decree v.decree x

-- at least f replicas besides l answered that they pre-accepted x at the default ballot
abbrev pub is_backed : ℕ → ℕ → (ℕ → Option (Option Vote)) → Decree → Bool
is_backed f l vote x = leb f (count (size f) (λ r. is_other l r && votes (did_preaccept_this l x) (vote r)))

-- r stands for f answers that may have been the fast quorum's
abbrev pub is_fast_witness : ℕ → ℕ → (ℕ → Option (Option Vote)) → ℕ → Bool
is_fast_witness f l vote r = is_other l r && votes (λ v. did_preaccept_at l v && is_backed f l vote v.decree) (vote r)

-- what r voted for, to be done something with, or else
abbrev pub with_vote_of : Option (Option Vote) → (Decree → Choice) → Choice → Choice
with_vote_of None chosen other = other
with_vote_of (Some None) chosen other = other
with_vote_of (Some (Some v)) chosen other = chosen v.decree

abbrev pub choose_at : (ℕ → Option (Option Vote)) → Option ℕ → (Decree → Choice) → Choice → Choice
choose_at vote None chosen other = other
choose_at vote (Some r) chosen other = with_vote_of (vote r) chosen other

-- the five cases, in order; where several answers qualify, that of the least replica
abbrev pub choose : ℕ → ℕ → (ℕ → Option (Option Vote)) → Choice
choose f l vote =
    let n = size f in
    let top = top_ballot l n vote in
    choose_at vote (least n (λ r. votes did_commit (vote r))) (λ x. CommitIt x)
    (choose_at vote (least n (λ r. votes (did_accept_at top) (vote r))) (λ x. AcceptIt x)
    (choose_at vote (least n (λ r. eqb top l && is_fast_witness f l vote r)) (λ x. AcceptFast x)
    (choose_at vote (least n (λ r. votes (did_preaccept_at top) (vote r))) (λ x. ProposeIt x.command)
    ProposeNoop)))

-- phase 1 at a recovery ballot asks all others: the leader spares nobody but itself
abbrev pub recover_with : ℕ → ℕ → ℕ → ℕ → Command → Attrs → Outcome
recover_with f i me b c own = limited own (first_phase (is_other me) f i b me (record { command = c; attrs = own }))

-- what the leader of b does with the choice
abbrev pub act_on : ℕ → ℕ → ℕ → ℕ → (Command → Attrs) → Record → Choice → Outcome
act_on f i me b own r (CommitIt x) = Ok (commit_phase f i me x r)
act_on f i me b own r (AcceptIt x) = Ok (accept_phase f i me b x)
act_on f i me b own r (AcceptFast x) = Ok (accept_phase f i me b x)
act_on f i me b own r (ProposeIt c) = recover_with f i me b c (own c)
act_on f i me b own r ProposeNoop = recover_with f i me b Noop (own Noop)

-- The events.

-- above what the replica promised, and above all counters that it has heard of
abbrev pub next_counter : Record → ℕ → ℕ
next_counter r reported = 1 + max (counter_of r.promised) reported

abbrev pub prepare_phase : ℕ → ℕ → ℕ → ℕ → Record → Change
prepare_phase f i me b r =
    record {
      entry = Some (record { promised = b; vote = r.vote });
      led = Some (Some (Preparing b (with_answer [] me r.vote)));
      reported = None;
      out = to_those (is_other me) (size f) (Prepare i b);
    }

abbrev pub recover : ℕ → ℕ → ℕ → Record → ℕ → Outcome
recover f i me r reported =
    cond (is_committed r.vote) (Err AlreadyCommitted)
    (cond (leb (next_counter r reported) highest_counter) (Ok (prepare_phase f i me (ballot_of (next_counter r reported) me) r)) (Err BallotsExhausted))

-- a committed replica answers, too
abbrev pub on_prepare : ℕ → ℕ → ℕ → Record → Change
on_prepare i from b r =
    cond (ltb b r.promised) (answered from (Nack i b r.promised))
    (cond (eqb b r.promised) nothing
    (recorded (record { promised = b; vote = r.vote }) from (PrepareOk i b r.vote)))

abbrev pub answered_all : {X : Type 0} → ℕ → Answers X → ℕ
answered_all f answers = count (size f) (λ r. is_some (answer answers r))

-- the leader's own answer counts; f+1 answers are enough
abbrev pub count_prepare_ok : ℕ → ℕ → ℕ → ℕ → Answers (Option Vote) → (Command → Attrs) → Record → Outcome
count_prepare_ok f i me b answers own r =
    cond (leb (f + 1) (answered_all f answers))
    (act_on f i me b own r (choose f (leader_of i) (λ q. answer answers q)))
    (Ok (kept (Preparing b answers)))

abbrev pub more_preparing : ℕ → Option Vote → Option LedInstance → Option (ℕ × Answers (Option Vote))
more_preparing from v None = None
more_preparing from v (Some (Proposing b s answers)) = None
more_preparing from v (Some (Accepting b answers)) = None
more_preparing from v (Some (Preparing b answers)) = cond (is_some (answer answers from)) None (Some (b, with_answer answers from v))

abbrev pub use_prepare_ok : ℕ → ℕ → ℕ → ℕ → (Command → Attrs) → Record → Option (ℕ × Answers (Option Vote)) → Outcome
use_prepare_ok f i me b own r None = Ok nothing
use_prepare_ok f i me b own r (Some more) = cond (is_usable b r more.0) (count_prepare_ok f i me b more.1 own r) (Ok nothing)

abbrev pub on_prepare_ok : ℕ → ℕ → ℕ → ℕ → ℕ → Option Vote → (Command → Attrs) → Record → Option LedInstance → Outcome
on_prepare_ok f i me from b v own r led = use_prepare_ok f i me b own r (more_preparing from v led)

-- the greatest counter that a Nack named is kept
abbrev pub on_nack : ℕ → ℕ → Change
on_nack promised reported = record { entry = None; led = None; reported = Some (max reported (counter_of promised)); out = [] }

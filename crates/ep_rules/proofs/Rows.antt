-- Worked choices and worked steps of phase 1 about instance 0.1, computed from the definitions.
use Rattle.std.proofs.Common.{◌≡◌, ℕ, [], ◌∷◌, Option, Some, None, Ok, Err, refl}
use Rattle.ep_base.specs.Ballots.{ballot_of}
use Rattle.ep_base.specs.Instances.{instance_of}
use Rattle.ep_base.specs.declared.attrs.Attrs.{Attrs}
use Rattle.ep_base.specs.Commands.{Command, Put}
use Rattle.ep_base.specs.declared.decree.Decree.{Decree}
use Rattle.ep_base.specs.declared.message.Message.TheVariants.{PreAccept, PreAcceptOk, Accept, Commit, Nack}
use Rattle.ep_base.specs.declared.vote.VoteStatus.{VoteStatus}
use Rattle.ep_base.specs.declared.vote.VoteStatus.TheVariants.{PreAccepted, Accepted, Committed}
use Rattle.ep_base.specs.declared.vote.Vote.{Vote}
use Rattle.ep_rules.specs.Answers.{Answers, answer}
use Rattle.ep_rules.specs.Cells.{nothing, kept, voted, fresh_record, NotLeading, TooFewAnswers}
use Rattle.ep_rules.specs.Phases.{propose, on_pre_accept, on_pre_accept_ok, give_up}
use Rattle.ep_rules.specs.Recovery.{Choice, CommitIt, AcceptFast, ProposeIt, ProposeNoop, choose}
use Rattle.ep_rules.specs.declared.led_instance.LedInstance.{LedInstance}
use Rattle.ep_rules.specs.declared.led_instance.LedInstance.TheVariants.{Proposing, Accepting}
use Rattle.ep_rules.specs.declared.record.Record.{Record}

-- the instance, and the command in it
abbrev i : ℕ
i = instance_of 0 1

abbrev put_x : Command
put_x = Put (120 ∷ []) (49 ∷ [])

-- the leader's own attributes, those of a replica that knows of 1.1 as well, and the command with each
abbrev alone : Attrs
alone = record { seq = 1; deps = [] }

abbrev after : Attrs
after = record { seq = 2; deps = instance_of 1 1 ∷ [] }

abbrev put_alone : Decree
put_alone = record { command = put_x; attrs = alone }

abbrev put_after : Decree
put_after = record { command = put_x; attrs = after }

-- The choice.

abbrev vote : VoteStatus → ℕ → Decree → Option Vote
vote s b x = Some (record { status = s; ballot = b; decree = x })

abbrev chosen : ℕ → Answers (Option Vote) → Choice
chosen f answers = choose f 0 (λ r. answer answers r)

-- an answer is committed: it is committed
committed_chosen : chosen 2 ((4, None) ∷ (1, vote PreAccepted (ballot_of 0 0) put_alone) ∷ (2, vote Committed (ballot_of 0 0) put_alone) ∷ []) ≡ CommitIt put_alone
committed_chosen = refl

-- accepted, but below the greatest ballot: the command that was pre-accepted at the greatest one
accepted_too_low : chosen 2 ((1, vote Accepted (ballot_of 1 1) put_alone) ∷ (2, vote PreAccepted (ballot_of 2 2) put_after) ∷ (3, None) ∷ []) ≡ ProposeIt put_x
accepted_too_low = refl

-- as many equal answers as replicas may fail: the fast path may have committed them
fast_chosen : chosen 2 ((1, vote PreAccepted (ballot_of 0 0) put_alone) ∷ (2, vote PreAccepted (ballot_of 0 0) put_alone) ∷ (4, None) ∷ []) ≡ AcceptFast put_alone
fast_chosen = refl

-- the leader's own answer doesn't count there
leader_not_fast : chosen 2 ((0, vote PreAccepted (ballot_of 0 0) put_alone) ∷ (1, vote PreAccepted (ballot_of 0 0) put_alone) ∷ (4, None) ∷ []) ≡ ProposeIt put_x
leader_not_fast = refl

-- nobody voted: a no-op
noop_chosen : chosen 2 ((1, None) ∷ (3, None) ∷ (4, None) ∷ []) ≡ ProposeNoop
noop_chosen = refl

-- among three replicas one answer is enough
one_of_three : chosen 1 ((1, vote PreAccepted (ballot_of 0 0) put_after) ∷ (2, None) ∷ []) ≡ AcceptFast put_after
one_of_three = refl

-- of two such answers that of the least replica
least_of_two : chosen 1 ((1, vote PreAccepted (ballot_of 0 0) put_alone) ∷ (2, vote PreAccepted (ballot_of 0 0) put_after) ∷ []) ≡ AcceptFast put_alone
least_of_two = refl

-- Phase 1 among five replicas; the default ballot is (0, 0).

-- nothing is known of the instance but the promised ballot (1, 4)
abbrev joined : Record
joined = record { promised = ballot_of 1 4; vote = None }

-- a replica that knows of 1.1 votes with it as a dependency
votes_after : on_pre_accept i 0 (ballot_of 0 0) put_alone after (fresh_record i)
    ≡ Ok (record { entry = Some (voted (ballot_of 0 0) PreAccepted put_after); led = None; reported = None; out = (0, PreAcceptOk i (ballot_of 0 0) after) ∷ [] })
votes_after = refl

-- and not again
votes_once : on_pre_accept i 0 (ballot_of 0 0) put_alone after (voted (ballot_of 0 0) PreAccepted put_after) ≡ Ok nothing
votes_once = refl

-- a replica that has promised more refuses, and says what
refuses : on_pre_accept i 0 (ballot_of 0 0) put_alone alone joined
    ≡ Ok (record { entry = None; led = None; reported = None; out = (0, Nack i (ballot_of 0 0) (ballot_of 1 4)) ∷ [] })
refuses = refl

-- the leader's record of its own vote
abbrev own : Record
own = voted (ballot_of 0 0) PreAccepted put_alone

-- the same, where it has promised a higher ballot since
abbrev own_joined : Record
own_joined = record { promised = ballot_of 1 4; vote = own.vote }

abbrev leads : Answers Attrs → Option LedInstance
leads answers = Some (Proposing (ballot_of 0 0) 4 answers)

-- a proposal that spares replica 1 asks the three others
sparing_asks : propose 2 i 1 put_x alone
    ≡ Ok (record {
      entry = Some own;
      led = Some (Some (Proposing (ballot_of 0 0) 1 []));
      reported = None;
      out = (2, PreAccept i (ballot_of 0 0) put_alone) ∷ (3, PreAccept i (ballot_of 0 0) put_alone) ∷ (4, PreAccept i (ballot_of 0 0) put_alone) ∷ [];
    })
sparing_asks = refl

-- its fast path waits for these, and not for any three
sparing_waits : on_pre_accept_ok 2 i 0 3 (ballot_of 0 0) after own (Some (Proposing (ballot_of 0 0) 1 ((2, after) ∷ (1, after) ∷ [])))
    ≡ kept (Proposing (ballot_of 0 0) 1 ((3, after) ∷ (2, after) ∷ (1, after) ∷ []))
sparing_waits = refl

sparing_commits : on_pre_accept_ok 2 i 0 3 (ballot_of 0 0) after own (Some (Proposing (ballot_of 0 0) 1 ((2, after) ∷ (4, after) ∷ [])))
    ≡ record {
      entry = Some (voted (ballot_of 0 0) Committed put_after);
      led = Some None;
      reported = None;
      out = (1, Commit i put_after) ∷ (2, Commit i put_after) ∷ (3, Commit i put_after) ∷ (4, Commit i put_after) ∷ [];
    }
sparing_commits = refl

-- answers that differ: the accept phase with all of them joined
slow_path : on_pre_accept_ok 2 i 0 3 (ballot_of 0 0) alone own (leads ((2, after) ∷ (1, alone) ∷ []))
    ≡ record {
      entry = Some (voted (ballot_of 0 0) Accepted put_after);
      led = Some (Some (Accepting (ballot_of 0 0) []));
      reported = None;
      out = (1, Accept i (ballot_of 0 0) put_after) ∷ (2, Accept i (ballot_of 0 0) put_after) ∷ (3, Accept i (ballot_of 0 0) put_after) ∷ (4, Accept i (ballot_of 0 0) put_after) ∷ [];
    }
slow_path = refl

-- equal answers: committed, though the leader's own attributes are others
fast_path : on_pre_accept_ok 2 i 0 3 (ballot_of 0 0) after own (leads ((2, after) ∷ (1, after) ∷ []))
    ≡ record {
      entry = Some (voted (ballot_of 0 0) Committed put_after);
      led = Some None;
      reported = None;
      out = (1, Commit i put_after) ∷ (2, Commit i put_after) ∷ (3, Commit i put_after) ∷ (4, Commit i put_after) ∷ [];
    }
fast_path = refl

-- one answer is too few to give up the fast path
too_few_to_give_up : give_up 2 i 0 own (leads ((1, alone) ∷ [])) ≡ Err TooFewAnswers
too_few_to_give_up = refl

-- a leader that has promised a higher ballot has nothing to give up
no_longer_leading : give_up 2 i 0 own_joined (leads ((2, after) ∷ (1, alone) ∷ [])) ≡ Err NotLeading
no_longer_leading = refl

-- and uses no answer at the lower one
uses_no_answer : on_pre_accept_ok 2 i 0 3 (ballot_of 0 0) alone own_joined (leads ((2, after) ∷ (1, alone) ∷ [])) ≡ nothing
uses_no_answer = refl

-- equal answers at a recovery ballot: the accept phase all the same
no_fast_path_in_recovery : on_pre_accept_ok 2 i 1 2 (ballot_of 1 1) alone (voted (ballot_of 1 1) PreAccepted put_alone) (Some (Proposing (ballot_of 1 1) 1 ((0, alone) ∷ [])))
    ≡ record {
      entry = Some (voted (ballot_of 1 1) Accepted put_alone);
      led = Some (Some (Accepting (ballot_of 1 1) []));
      reported = None;
      out = (0, Accept i (ballot_of 1 1) put_alone) ∷ (2, Accept i (ballot_of 1 1) put_alone) ∷ (3, Accept i (ballot_of 1 1) put_alone) ∷ (4, Accept i (ballot_of 1 1) put_alone) ∷ [];
    }
no_fast_path_in_recovery = refl

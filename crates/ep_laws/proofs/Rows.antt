-- Worked runs, computed from the definitions.
use Rattle.std.proofs.Common.{◌≡◌, ℕ, false, List, [], ◌∷◌, map, Option, Some, None, slice_get, refl, arith}
use Rattle.ep_base.specs.Ballots.{ballot_of}
use Rattle.ep_base.specs.Instances.{instance_of}
use Rattle.ep_base.specs.Interference.{interfere}
use Rattle.ep_base.specs.Commands.{Command, Noop, Put, Get, Swap}
use Rattle.ep_base.specs.declared.message.Message.TheVariants.{PrepareOk, Nack}
use Rattle.ep_base.specs.declared.reply.Answer.TheVariants.{Replied}
use Rattle.ep_base.specs.declared.reply.Reply.TheVariants.{Absent, Present}
use Rattle.ep_base.specs.declared.vote.VoteStatus.TheVariants.{PreAccepted}
use Rattle.ep_rules.specs.Cells.{OutOfRange, TooFewAnswers}
use Rattle.ep_laws.specs.Rows.OneMap.{empty, opened, after, reply, answers_of}
use Rattle.ep_laws.specs.Rows.Operations.{history_of}
use Rattle.ep_laws.specs.Rows.States.{State, command_in}
use Rattle.ep_laws.specs.Rows.Steps.{IsExecution}
use Rattle.ep_laws.proofs.OneByOne.{execution, closed_none, closed_one}
use Rattle.ep_laws.proofs.Playing.{Line, Proposal, Sparing, Resignation, Recovery, Deliver, Execution, Played, play, fresh, given, committed, put_x, get_x, attrs, decree, put_as}

-- one put, three replicas: the fast path, and all three commit
abbrev one_put : Played
one_put = play 1 fresh (Proposal 0 (put_x 49) ∷ given (1 ∷ 2 ∷ 3 ∷ 4 ∷ []) [])

one_put_commits : map (λ r. committed one_put r (instance_of 0 1)) (0 ∷ 1 ∷ 2 ∷ []) ≡ Some (decree (put_x 49) 1 []) ∷ Some (decree (put_x 49) 1 []) ∷ Some (decree (put_x 49) 1 []) ∷ []
one_put_commits = refl

-- the same, where replica 1 is spared: replica 2 alone is asked
abbrev spared_put : Played
spared_put = play 1 fresh (Sparing 0 1 (put_x 49) ∷ given (1 ∷ 2 ∷ 3 ∷ 4 ∷ []) [])

spared_put_commits : map (λ r. committed spared_put r (instance_of 0 1)) (0 ∷ 1 ∷ 2 ∷ []) ≡ Some (decree (put_x 49) 1 []) ∷ Some (decree (put_x 49) 1 []) ∷ Some (decree (put_x 49) 1 []) ∷ []
spared_put_commits = refl

-- nobody spares itself, nor a replica that isn't there
abbrev spared_badly : Played
spared_badly = play 1 fresh (Sparing 0 0 (put_x 49) ∷ (Sparing 0 3 (put_x 49) ∷ []))

spared_badly_is_refused : spared_badly.refused ≡ OutOfRange ∷ OutOfRange ∷ []
spared_badly_is_refused = refl

-- two puts of one key at once: the second leader's PreAccept comes too late to see the first
abbrev two_puts : Played
two_puts = play 1 fresh (Proposal 0 (put_x 49) ∷ (Proposal 1 (put_x 50) ∷ given (1 ∷ 2 ∷ 3 ∷ 4 ∷ 5 ∷ 6 ∷ 7 ∷ 8 ∷ []) []))

two_puts_commit : map (λ i. committed two_puts 2 i) (instance_of 0 1 ∷ instance_of 1 1 ∷ [])
    ≡ Some (decree (put_x 49) 2 (instance_of 1 1 ∷ [])) ∷ Some (decree (put_x 50) 1 []) ∷ []
two_puts_commit = refl

-- three that depend on one another in a ring
abbrev ring : Played
ring = play 1 fresh (Proposal 0 (put_x 49) ∷ (Proposal 1 (put_x 50) ∷ (Proposal 2 (put_x 51) ∷ given (1 ∷ 2 ∷ 3 ∷ 4 ∷ 5 ∷ 6 ∷ 7 ∷ 8 ∷ 9 ∷ 10 ∷ 11 ∷ 12 ∷ []) [])))

ring_commits : map (λ i. committed ring 0 i) (instance_of 0 1 ∷ instance_of 1 1 ∷ instance_of 2 1 ∷ [])
    ≡ Some (decree (put_x 49) 2 (instance_of 1 1 ∷ [])) ∷ Some (decree (put_x 50) 2 (instance_of 2 1 ∷ [])) ∷ Some (decree (put_x 51) 2 (instance_of 0 1 ∷ [])) ∷ []
ring_commits = refl

-- five replicas, answers that differ: the slow path
abbrev slow : Played
slow = play 2 fresh (Proposal 0 (put_x 49) ∷ (Proposal 1 (put_x 50) ∷ given (1 ∷ 2 ∷ 3 ∷ 8 ∷ 7 ∷ 9 ∷ 10 ∷ 11 ∷ 14 ∷ 15 ∷ []) []))

slow_commits : committed slow 0 (instance_of 0 1) ≡ Some (decree (put_x 49) 2 (instance_of 1 1 ∷ []))
slow_commits = refl

-- the leader gives up on the fast path, at first with too few answers
abbrev given_up : Played
given_up =
    play 2 fresh (Proposal 0 (put_x 49) ∷ (Proposal 1 (put_x 50) ∷ given (1 ∷ 2 ∷ 7 ∷ [])
    (Resignation 0 (instance_of 0 1) ∷ (Deliver 8 ∷ (Resignation 0 (instance_of 0 1) ∷ given (10 ∷ 11 ∷ 13 ∷ 14 ∷ []) [])))))

given_up_commits : committed given_up 0 (instance_of 0 1) ≡ Some (decree (put_x 49) 2 (instance_of 1 1 ∷ []))
given_up_commits = refl

given_up_too_early : given_up.refused ≡ TooFewAnswers ∷ []
given_up_too_early = refl

-- recovery by the vote of the fast quorum, and then the fast path by an answer that comes late
abbrev recovered : Played
recovered = play 1 fresh (Proposal 0 (put_x 49) ∷ (Deliver 1 ∷ (Recovery 2 (instance_of 0 1) ∷ given (4 ∷ 5 ∷ 7 ∷ 8 ∷ 2 ∷ []) [])))

recovered_commits : map (λ r. committed recovered r (instance_of 0 1)) (0 ∷ 2 ∷ []) ≡ Some (decree (put_x 49) 1 []) ∷ Some (decree (put_x 49) 1 []) ∷ []
recovered_commits = refl

-- recovery of an instance that nobody else knows of: a no-op, and the late PreAccept is refused
abbrev lost : Played
lost = play 1 fresh (Proposal 0 (put_x 49) ∷ (Recovery 2 (instance_of 0 1) ∷ given (3 ∷ 4 ∷ 6 ∷ 7 ∷ 9 ∷ 10 ∷ 1 ∷ 11 ∷ []) []))

lost_commits : committed lost 0 (instance_of 0 1) ≡ Some (decree Noop 1 [])
lost_commits = refl

lost_nack : slice_get lost.world.sent 12 ≡ Some (record { from = 1; to = 0; message = Nack (instance_of 0 1) (ballot_of 0 0) (ballot_of 1 2) })
lost_nack = refl

-- a leader that has promised a higher ballot uses no answer; then a recovery by phase 1
abbrev promised : List Line → List Line
promised ls = Proposal 0 (put_x 49) ∷ given (1 ∷ 2 ∷ 3 ∷ 4 ∷ 5 ∷ []) (Recovery 4 (instance_of 0 1) ∷ given (7 ∷ 6 ∷ []) ls)

promised_commits_nothing : map (λ r. committed (play 2 fresh (promised [])) r (instance_of 0 1)) (0 ∷ 1 ∷ 2 ∷ 3 ∷ 4 ∷ []) ≡ None ∷ None ∷ None ∷ None ∷ None ∷ []
promised_commits_nothing = refl

promised_commits : committed (play 2 fresh (promised (given (8 ∷ 11 ∷ 12 ∷ 14 ∷ 15 ∷ 17 ∷ 18 ∷ 20 ∷ 21 ∷ 23 ∷ 24 ∷ 25 ∷ []) []))) 0 (instance_of 0 1) ≡ Some (decree (put_x 49) 1 [])
promised_commits = refl

-- the answer to a second prepare bears the ballot of the vote, and not the one promised
abbrev prepared_twice : Played
prepared_twice = play 2 fresh (Proposal 0 (put_x 49) ∷ (Deliver 3 ∷ (Recovery 1 (instance_of 0 1) ∷ (Deliver 7 ∷ (Recovery 2 (instance_of 0 1) ∷ (Deliver 12 ∷ []))))))

prepared_twice_answer : slice_get prepared_twice.world.sent 13
    ≡ Some (record { from = 3; to = 2; message = PrepareOk (instance_of 0 1) (ballot_of 1 2) (Some (record { status = PreAccepted; ballot = ballot_of 0 0; decree = decree (put_x 49) 1 [] })) })
prepared_twice_answer = refl

-- messages that come often change nothing more
abbrev repeated : Played
repeated = play 1 fresh (Proposal 0 (put_x 49) ∷ given (1 ∷ 1 ∷ 1 ∷ 2 ∷ 2 ∷ 2 ∷ 4 ∷ 4 ∷ 4 ∷ 3 ∷ 3 ∷ 3 ∷ []) [])

repeated_sends : slice_get repeated.world.sent 4 ≡ None
repeated_sends = refl

-- two gets don't interfere
abbrev gets : Played
gets = play 1 fresh (Proposal 0 (put_x 49) ∷ given (1 ∷ 2 ∷ 3 ∷ 4 ∷ []) (Proposal 0 get_x ∷ (Proposal 1 get_x ∷ given (5 ∷ 6 ∷ 7 ∷ 8 ∷ 9 ∷ 10 ∷ 11 ∷ 12 ∷ []) [])))

gets_commit : map (λ i. committed gets 2 i) (instance_of 0 2 ∷ instance_of 1 1 ∷ []) ≡ Some (decree get_x 2 (instance_of 0 1 ∷ [])) ∷ Some (decree get_x 2 (instance_of 0 1 ∷ [])) ∷ []
gets_commit = refl

-- two that depend on one another, one of them recovered
abbrev both : Played
both = play 1 fresh (Proposal 0 (put_x 49) ∷ (Proposal 1 (put_x 50) ∷ given (1 ∷ 3 ∷ []) (Recovery 0 (instance_of 1 1) ∷ given (6 ∷ 8 ∷ 9 ∷ 11 ∷ 12 ∷ 14 ∷ []) [])))

both_commit : map (λ i. committed both 0 i) (instance_of 0 1 ∷ instance_of 1 1 ∷ []) ≡ Some (decree (put_x 49) 2 (instance_of 1 1 ∷ [])) ∷ Some (decree (put_x 50) 3 (instance_of 0 1 ∷ [])) ∷ []
both_commit = refl

-- two puts of one key, by callers that say nothing to each other: the second one is proposed at another replica, after the first was executed
abbrev in_turn : List Line → Played
in_turn ls =
    play 1 fresh (Proposal 0 (put_x 49) ∷ given (1 ∷ 2 ∷ 3 ∷ 4 ∷ []) (Execution 0 (instance_of 0 1) (Replied Absent) ∷ (Proposal 1 (put_x 50) ∷ given (5 ∷ 6 ∷ 7 ∷ 8 ∷ []) (Execution 1 (instance_of 0 1) (Replied Absent) ∷ ls))))

abbrev both_in_turn : Played
both_in_turn = in_turn (Execution 1 (instance_of 1 1) (Replied (Present (49 ∷ []))) ∷ [])

in_turn_refuses_nothing : both_in_turn.refused ≡ []
in_turn_refuses_nothing = refl

in_turn_commits : map (λ i. committed both_in_turn 1 i) (instance_of 0 1 ∷ instance_of 1 1 ∷ []) ≡ Some (decree (put_x 49) 1 []) ∷ Some (decree (put_x 50) 2 (instance_of 0 1 ∷ [])) ∷ []
in_turn_commits = refl

in_turn_history : history_of (opened empty) 1 both_in_turn.acts ≡ put_as 0 49 ∷ (put_as 1 50 ∷ [])
in_turn_history = refl

-- the first and the last execution are what the definition gives in the states that they find
abbrev first_executes : State
first_executes = (play 1 fresh (Proposal 0 (put_x 49) ∷ given (1 ∷ 2 ∷ 3 ∷ 4 ∷ []) [])).world.states 0

in_turn_first : IsExecution first_executes (instance_of 0 1) ((instance_of 0 1, Replied Absent) ∷ [])
in_turn_first = execution first_executes (instance_of 0 1) (attrs 1 []) (Replied Absent) (closed_none _) refl (λ j h. absurd (omega arith)) (λ h. absurd (omega arith)) refl

abbrev last_executes : State
last_executes = (in_turn []).world.states 1

in_turn_last : IsExecution last_executes (instance_of 1 1) ((instance_of 1 1, Replied (Present (49 ∷ []))) ∷ [])
in_turn_last =
    execution last_executes (instance_of 1 1) (attrs 2 (instance_of 0 1 ∷ [])) (Replied (Present (49 ∷ []))) (closed_one _ (instance_of 0 1) 1 refl) refl (λ j h. h) (λ h. absurd (omega arith)) refl

-- another replica executes a put before its own leader does, and a second put too: the leader's answer comes last, and the history has its put first
abbrev overtaken : List Line → Played
overtaken ls =
    play 1 fresh (Proposal 0 (put_x 49) ∷ given (1 ∷ 2 ∷ 3 ∷ []) (Execution 1 (instance_of 0 1) (Replied Absent) ∷ (Proposal 1 (put_x 50) ∷ given (5 ∷ 6 ∷ []) (Execution 1 (instance_of 1 1) (Replied (Present (49 ∷ []))) ∷ ls))))

abbrev leader_last : Played
leader_last = overtaken (Execution 0 (instance_of 0 1) (Replied Absent) ∷ [])

overtaken_refuses_nothing : leader_last.refused ≡ []
overtaken_refuses_nothing = refl

overtaken_history : history_of (opened empty) 1 leader_last.acts ≡ put_as 0 49 ∷ (put_as 1 50 ∷ [])
overtaken_history = refl

-- before its leader has answered it has its place already
overtaken_history_before : history_of (opened empty) 1 (overtaken []).acts ≡ put_as 0 49 ∷ (put_as 1 50 ∷ [])
overtaken_history_before = refl

abbrev leader_executes : State
leader_executes = (overtaken []).world.states 0

overtaken_last : IsExecution leader_executes (instance_of 0 1) ((instance_of 0 1, Replied Absent) ∷ [])
overtaken_last = execution leader_executes (instance_of 0 1) (attrs 1 []) (Replied Absent) (closed_none _) refl (λ j h. absurd (omega arith)) (λ h. absurd (omega arith)) refl

-- a put, a swap of its key with another one, and a get of that
abbrev swap_of : ℕ → ℕ → Command
swap_of k l = Swap (record { first = k ∷ []; second = l ∷ [] })

abbrev get_y : Command
get_y = Get (121 ∷ [])

abbrev swapped : Played
swapped =
    play 1 fresh (Proposal 0 (put_x 49) ∷ given (1 ∷ 2 ∷ 3 ∷ 4 ∷ [])
    (Proposal 0 (swap_of 120 121) ∷ given (5 ∷ 6 ∷ 7 ∷ 8 ∷ []) (Proposal 0 get_y ∷ given (9 ∷ 10 ∷ 11 ∷ 12 ∷ []) [])))

swapped_commits : map (λ i. committed swapped 2 i) (instance_of 0 1 ∷ instance_of 0 2 ∷ instance_of 0 3 ∷ [])
    ≡ Some (decree (put_x 49) 1 []) ∷ Some (decree (swap_of 120 121) 2 (instance_of 0 1 ∷ [])) ∷ Some (decree get_y 3 (instance_of 0 2 ∷ [])) ∷ []
swapped_commits = refl

abbrev swapped_state : State
swapped_state = swapped.world.states 0

swapped_answers : answers_of (command_in swapped_state.records) swapped_state.store (instance_of 0 1 ∷ instance_of 0 2 ∷ instance_of 0 3 ∷ [])
    ≡ Replied Absent ∷ Replied (Present (49 ∷ [])) ∷ Replied (Present (49 ∷ [])) ∷ []
swapped_answers = refl

-- two swaps at once that share a key
abbrev two_swaps : Played
two_swaps = play 1 fresh (Proposal 0 (swap_of 120 121) ∷ (Proposal 1 (swap_of 121 122) ∷ given (1 ∷ 2 ∷ 3 ∷ 4 ∷ 5 ∷ 6 ∷ 7 ∷ 8 ∷ []) []))

two_swaps_commit : map (λ i. committed two_swaps 2 i) (instance_of 0 1 ∷ instance_of 1 1 ∷ [])
    ≡ Some (decree (swap_of 120 121) 2 (instance_of 1 1 ∷ [])) ∷ Some (decree (swap_of 121 122) 1 []) ∷ []
two_swaps_commit = refl

-- and two that share none
no_shared_key : interfere (swap_of 120 121) (swap_of 122 123) ≡ false
no_shared_key = refl

-- a key without a value leaves the other one without one, and again
swap_away : after (after (opened empty) (put_x 49)) (swap_of 120 121) ≡ after (opened empty) (Put (121 ∷ []) (49 ∷ []))
swap_away = refl

swap_back : after (after (after (opened empty) (put_x 49)) (swap_of 120 121)) (swap_of 120 121) ≡ after (opened empty) (put_x 49)
swap_back = refl

swap_reports_its_first_key : reply (after (opened empty) (put_x 49)) (swap_of 121 120) ≡ Absent
swap_reports_its_first_key = refl

-- Worked runs with seals, and a life of two generations, computed from the definitions.
use Rattle.std.proofs.Common.{◌≡◌, ℕ, true, false, List, [], ◌∷◌, ◌++◌, map, Option, Some, None, refl, arith}
use Rattle.ep_base.specs.Instances.{instance_of}
use Rattle.ep_base.specs.Interference.{interfere}
use Rattle.ep_base.specs.Commands.{Command, Noop, Get, Cas, Seal, Opaque}
use Rattle.ep_base.specs.declared.reply.Answer.{Answer}
use Rattle.ep_base.specs.declared.reply.Answer.TheVariants.{Replied}
use Rattle.ep_base.specs.declared.reply.Reply.TheVariants.{Absent, Present, Closed}
use Rattle.ep_laws.specs.Rows.Closing.{up_to_seal}
use Rattle.ep_laws.specs.Rows.Generations.{Turn, Opens, Steps, Life, birth, lived, one_history}
use Rattle.ep_laws.specs.Rows.OneMap.{empty, opened, Store, after, after_commands, replies, answers_of}
use Rattle.ep_laws.specs.Rows.Operations.{Operation, history_of}
use Rattle.ep_laws.specs.Rows.States.{State, command_in}
use Rattle.ep_laws.specs.Rows.Steps.{IsExecution}
use Rattle.ep_laws.specs.Rows.Worlds.{Act}
use Rattle.ep_laws.proofs.OneByOne.{execution, closed_none, closed_one}
use Rattle.ep_laws.proofs.Playing.{Line, Proposal, Execution, Played, play, opening_on, fresh, given, committed, put_x, get_x, attrs, decree, put_as}

-- a put, and then a seal by another replica, which executes both; a third one proposes a put after that
abbrev seal : Command
seal = Seal (7 ∷ [])

abbrev sealed : Played
sealed =
    play 1 fresh (Proposal 0 (put_x 49) ∷ given (1 ∷ 2 ∷ 3 ∷ 4 ∷ []) (Proposal 1 seal ∷ given (5 ∷ 6 ∷ 7 ∷ 8 ∷ [])
    (Execution 1 (instance_of 0 1) (Replied Absent) ∷ (Execution 1 (instance_of 1 1) (Replied Absent) ∷ (Proposal 2 (put_x 50) ∷ given (9 ∷ 10 ∷ 11 ∷ 12 ∷ [])
    (Execution 2 (instance_of 0 1) (Replied Absent) ∷ (Execution 2 (instance_of 1 1) (Replied Absent) ∷ (Execution 2 (instance_of 2 1) (Replied Closed) ∷ []))))))))

sealed_refuses_nothing : sealed.refused ≡ []
sealed_refuses_nothing = refl

sealed_commits : map (λ i. committed sealed 2 i) (instance_of 0 1 ∷ instance_of 1 1 ∷ instance_of 2 1 ∷ [])
    ≡ Some (decree (put_x 49) 1 []) ∷ Some (decree seal 2 (instance_of 0 1 ∷ [])) ∷ Some (decree (put_x 50) 3 (instance_of 0 1 ∷ instance_of 1 1 ∷ [])) ∷ []
sealed_commits = refl

abbrev at_seal : Store
at_seal = record { contents = (120 ∷ [], 49 ∷ []) ∷ []; seal = Some (7 ∷ []) }

sealed_stores : map (λ r. (sealed.world.states r).store) (1 ∷ 2 ∷ []) ≡ at_seal ∷ at_seal ∷ []
sealed_stores = refl

abbrev sealed_state : State
sealed_state = sealed.world.states 2

sealed_answers : answers_of (command_in sealed_state.records) (opened empty) (instance_of 0 1 ∷ instance_of 1 1 ∷ instance_of 2 1 ∷ []) ≡ Replied Absent ∷ Replied Absent ∷ Replied Closed ∷ []
sealed_answers = refl

-- the next generation opens with that map: at replica 0, which hasn't executed the seal, and at replica 2
abbrev next : Played
next = play 1 (opening_on at_seal.contents) (Proposal 0 get_x ∷ given (1 ∷ 2 ∷ 3 ∷ 4 ∷ []) (Execution 2 (instance_of 0 1) (Replied (Present (49 ∷ []))) ∷ []))

next_refuses_nothing : next.refused ≡ []
next_refuses_nothing = refl

abbrev steps : ℕ → List Act → List Turn
steps g [] = []
steps g (a ∷ as') = Steps g a ∷ steps g as'

-- both as one life: replica 0 opens the next generation with replica 1's map, and so on
abbrev turns : List Turn
turns = steps 0 sealed.acts ++ (Opens 0 0 1 ∷ (Opens 0 1 1 ∷ (Opens 0 2 2 ∷ steps 1 next.acts)))

abbrev life : Life
life = lived (λ g. 1) (birth empty) turns

life_opens : map (λ r. life.has_opened 1 r) (0 ∷ 1 ∷ 2 ∷ 3 ∷ []) ≡ true ∷ true ∷ true ∷ false ∷ []
life_opens = refl

life_stores : map (λ r. ((life.worlds 1).states r).store) (0 ∷ 1 ∷ 2 ∷ []) ≡ opened at_seal.contents ∷ opened at_seal.contents ∷ opened at_seal.contents ∷ []
life_stores = refl

-- its history has the put, the seal and the get; the put that found the map closed has no place
life_history : one_history empty (λ g. 1) turns
    ≡ record { generation = 0; operation = put_as 0 49 } ∷ (record { generation = 0; operation = record { instance = instance_of 1 1; command = seal } }
    ∷ (record { generation = 1; operation = record { instance = instance_of 0 1; command = get_x } } ∷ []))
life_history = refl

-- A seal and a put at once.

-- the answers at replica 2, where these instances are executed in turn
abbrev answers_at : Played → List ℕ → List Answer
answers_at p is = answers_of (command_in (p.world.states 2).records) (opened empty) is

-- the put at replica 0, whose PreAccept finds the seal at replica 1: the put depends on the seal, and loses the race everywhere
abbrev put_late : List Line → Played
put_late ls = play 1 fresh (Proposal 0 (put_x 49) ∷ (Proposal 1 seal ∷ given (1 ∷ 2 ∷ 3 ∷ 4 ∷ 5 ∷ 6 ∷ 7 ∷ 8 ∷ []) ls))

put_late_commits : map (λ i. committed (put_late []) 2 i) (instance_of 0 1 ∷ instance_of 1 1 ∷ [])
    ≡ Some (decree (put_x 49) 2 (instance_of 1 1 ∷ [])) ∷ Some (decree seal 1 []) ∷ []
put_late_commits = refl

put_late_answers : answers_at (put_late []) (instance_of 1 1 ∷ instance_of 0 1 ∷ []) ≡ Replied Absent ∷ Replied Closed ∷ []
put_late_answers = refl

-- it executes the seal first, and the put behind it, which stands in the history and not before the seal
abbrev put_late_seals : State
put_late_seals = (put_late []).world.states 0

put_late_first : IsExecution put_late_seals (instance_of 1 1) ((instance_of 1 1, Replied Absent) ∷ [])
put_late_first = execution put_late_seals (instance_of 1 1) (attrs 1 []) (Replied Absent) (closed_none _) refl (λ j h. absurd (omega arith)) (λ h. absurd (omega arith)) refl

abbrev put_late_sealed : State
put_late_sealed = (put_late (Execution 0 (instance_of 1 1) (Replied Absent) ∷ [])).world.states 0

put_late_second : IsExecution put_late_sealed (instance_of 0 1) ((instance_of 0 1, Replied Closed) ∷ [])
put_late_second =
    execution put_late_sealed (instance_of 0 1) (attrs 2 (instance_of 1 1 ∷ [])) (Replied Closed) (closed_one _ (instance_of 1 1) 1 refl) refl (λ j h. h) (λ h. absurd (omega arith)) refl

abbrev put_late_acts : List Act
put_late_acts = (put_late (Execution 0 (instance_of 1 1) (Replied Absent) ∷ (Execution 0 (instance_of 0 1) (Replied Closed) ∷ []))).acts

put_late_history : history_of (opened empty) 1 put_late_acts ≡ record { instance = instance_of 1 1; command = seal } ∷ (put_as 0 49 ∷ [])
put_late_history = refl

put_late_cut : up_to_seal (history_of (opened empty) 1 put_late_acts) ≡ record { instance = instance_of 1 1; command = seal } ∷ []
put_late_cut = refl

-- the other way: the put at replica 1, the seal at replica 0
abbrev put_early : Played
put_early = play 1 fresh (Proposal 0 seal ∷ (Proposal 1 (put_x 49) ∷ given (1 ∷ 2 ∷ 3 ∷ 4 ∷ 5 ∷ 6 ∷ 7 ∷ 8 ∷ []) []))

put_early_commits : map (λ i. committed put_early 2 i) (instance_of 0 1 ∷ instance_of 1 1 ∷ [])
    ≡ Some (decree seal 2 (instance_of 1 1 ∷ [])) ∷ Some (decree (put_x 49) 1 []) ∷ []
put_early_commits = refl

put_early_answers : answers_at put_early (instance_of 1 1 ∷ instance_of 0 1 ∷ []) ≡ Replied Absent ∷ Replied Absent ∷ []
put_early_answers = refl

-- Two seals at once: one depends on the other, and the first one's value counts.

abbrev other_seal : Command
other_seal = Seal (8 ∷ [])

abbrev two_seals : Played
two_seals = play 1 fresh (Proposal 0 seal ∷ (Proposal 1 other_seal ∷ given (1 ∷ 2 ∷ 3 ∷ 4 ∷ 5 ∷ 6 ∷ 7 ∷ 8 ∷ []) []))

two_seals_commit : map (λ i. committed two_seals 2 i) (instance_of 0 1 ∷ instance_of 1 1 ∷ [])
    ≡ Some (decree seal 2 (instance_of 1 1 ∷ [])) ∷ Some (decree other_seal 1 []) ∷ []
two_seals_commit = refl

two_seals_answers : answers_at two_seals (instance_of 1 1 ∷ instance_of 0 1 ∷ []) ≡ Replied Absent ∷ Replied Closed ∷ []
two_seals_answers = refl

two_seals_leave : map (λ cs. after_commands (opened empty) cs) ((seal ∷ (other_seal ∷ [])) ∷ ((other_seal ∷ (seal ∷ [])) ∷ []))
    ≡ record { contents = empty; seal = Some (7 ∷ []) } ∷ (record { contents = empty; seal = Some (8 ∷ []) } ∷ [])
two_seals_leave = refl

-- A seal in a circle. With equal sequence numbers the order is by replica (the ring of the worked orders).

-- the seal is the second one of three
abbrev in_circle : Played
in_circle = play 1 fresh (Proposal 0 (put_x 49) ∷ (Proposal 1 seal ∷ (Proposal 2 (put_x 51) ∷ given (1 ∷ 2 ∷ 3 ∷ 4 ∷ 5 ∷ 6 ∷ 7 ∷ 8 ∷ 9 ∷ 10 ∷ 11 ∷ 12 ∷ []) [])))

in_circle_commits : map (λ i. committed in_circle 2 i) (instance_of 0 1 ∷ instance_of 1 1 ∷ instance_of 2 1 ∷ [])
    ≡ Some (decree (put_x 49) 2 (instance_of 1 1 ∷ [])) ∷ Some (decree seal 2 (instance_of 2 1 ∷ [])) ∷ Some (decree (put_x 51) 2 (instance_of 0 1 ∷ [])) ∷ []
in_circle_commits = refl

in_circle_answers : answers_at in_circle (instance_of 0 1 ∷ instance_of 1 1 ∷ instance_of 2 1 ∷ []) ≡ Replied Absent ∷ Replied Absent ∷ Replied Closed ∷ []
in_circle_answers = refl

-- the seal is the first one: both puts find the map closed
abbrev first_in_circle : Played
first_in_circle = play 1 fresh (Proposal 0 seal ∷ (Proposal 1 (put_x 50) ∷ (Proposal 2 (put_x 51) ∷ given (1 ∷ 2 ∷ 3 ∷ 4 ∷ 5 ∷ 6 ∷ 7 ∷ 8 ∷ 9 ∷ 10 ∷ 11 ∷ 12 ∷ []) [])))

first_in_circle_commits : map (λ i. committed first_in_circle 2 i) (instance_of 0 1 ∷ instance_of 1 1 ∷ instance_of 2 1 ∷ [])
    ≡ Some (decree seal 2 (instance_of 1 1 ∷ [])) ∷ Some (decree (put_x 50) 2 (instance_of 2 1 ∷ [])) ∷ Some (decree (put_x 51) 2 (instance_of 0 1 ∷ [])) ∷ []
first_in_circle_commits = refl

first_in_circle_answers : answers_at first_in_circle (instance_of 0 1 ∷ instance_of 1 1 ∷ instance_of 2 1 ∷ []) ≡ Replied Absent ∷ Replied Closed ∷ Replied Closed ∷ []
first_in_circle_answers = refl

-- A seal interferes with all but a no-op, whatever its key.
seal_meets : map (λ c. interfere seal c) (get_x ∷ (put_x 49 ∷ (Cas (120 ∷ []) None None ∷ (Opaque (record { first = 120 ∷ []; second = None; reads = true }) [] ∷ (seal ∷ (Noop ∷ [])))))) ≡ true ∷ (true ∷ (true ∷ (true ∷ (true ∷ (false ∷ [])))))
seal_meets = refl

-- a closed map stays, and says so to each command but a no-op
closed_replies : replies (after (opened empty) seal) (get_x ∷ (put_x 49 ∷ (Cas (120 ∷ []) None (Some []) ∷ (Opaque (record { first = 120 ∷ []; second = None; reads = true }) [] ∷ (other_seal ∷ (Noop ∷ [])))))) ≡ Closed ∷ (Closed ∷ (Closed ∷ (Closed ∷ (Closed ∷ (Absent ∷ [])))))
closed_replies = refl

closed_stays : after_commands (after (opened empty) seal) (put_x 49 ∷ (Cas (120 ∷ []) None (Some []) ∷ (other_seal ∷ []))) ≡ record { contents = empty; seal = Some (7 ∷ []) }
closed_stays = refl

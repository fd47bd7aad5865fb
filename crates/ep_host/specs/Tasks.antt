-- Tasks: the events that they are, and what became of them.
use Rattle.std.specs.Prelude.{ℕ, ◌^◌, ◌-◌, ltb, suc, cond, List, [], ◌∷◌, ◌++◌, Option, None, Some}
use Rattle.ep_rules.specs.Steps as rules
use Rattle.ep_journal.specs.Events as journal
use Rattle.ep_journal.specs.declared.event.Event.{Event}
use Rattle.ep_journal.specs.declared.event.Event.TheVariants as event
use Rattle.ep_journal.specs.declared.step_fault.StepFault.{StepFault}
use Rattle.ep_host.specs.declared.task.Task.{Task}
use Rattle.ep_host.specs.declared.task.Task.TheVariants.{Propose, GiveUp, Recover}

abbrev pub event_of : Task → Event
event_of (Propose client request command seen spared) = event.Propose client request command seen spared
event_of (GiveUp i) = event.GiveUp i
event_of (Recover i) = event.Recover i

-- counted up by one, as far as this number
abbrev pub next : ℕ → ℕ → ℕ
next top n = cond (ltb n top) (suc n) n

-- the place after this one
abbrev pub next_place : ℕ → ℕ
next_place n = next (2 ^ 32 - 1) n

-- a task that was used up: it made its entry, or was refused
pub record Use : Type 0 where
  pub task : Task
  pub refusal : Option StepFault

abbrev pub tasks_in : List Use → List Task
tasks_in [] = []
tasks_in (u ∷ us) = u.task ∷ tasks_in us

abbrev pub event_made : Task → Option StepFault → List rules.Event
event_made task None = journal.event_of (event_of task) ∷ []
event_made task (Some fault) = []

-- the events of those that made entries, in order, as the rule book sees them
abbrev pub events_in : List Use → List rules.Event
events_in [] = []
events_in (u ∷ us) = event_made u.task u.refusal ++ events_in us

abbrev pub refusal_at : ℕ → Option StepFault → List (ℕ × StepFault)
refusal_at place None = []
refusal_at place (Some fault) = (place, fault) ∷ []

-- the refusals of the others, in order, each with its place, the first task being at this one
abbrev pub refusals_in : ℕ → List Use → List (ℕ × StepFault)
refusals_in place [] = []
refusals_in place (u ∷ us) = refusal_at place u.refusal ++ refusals_in (next_place place) us

-- the place after these tasks
abbrev pub place_after : ℕ → List Use → ℕ
place_after place [] = place
place_after place (u ∷ us) = place_after (next_place place) us

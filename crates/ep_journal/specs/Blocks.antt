-- The last execution that was refused: it is so again, as long as nothing is committed.
use Rattle.std.specs.Prelude.{◌≡◌, ◌⊎◌, ℕ, Option, Some, None, Result, Ok, Err}
use Rattle.ep_rules.specs.Cells as rules
use Rattle.ep_rules.specs.Steps.{Refuses, Execute as Executes}
use Rattle.ep_journal.specs.Events.{numbered_in}
use Rattle.ep_journal.specs.Standing.{Standing}
use Rattle.ep_journal.specs.declared.blocked.Blocked.{Blocked}
use Rattle.ep_journal.specs.declared.event.Event.{Event as Happening}
use Rattle.ep_journal.specs.declared.event.Event.TheVariants.{Propose, Handle, GiveUp, Recover, Execute}
use Rattle.ep_journal.specs.declared.mark.Mark.{Mark}
use Rattle.ep_journal.specs.declared.step_fault.StepFault.{StepFault}
use Rattle.ep_journal.specs.declared.step_fault.StepFault.TheVariants.{NotCommitted}
use Rattle.ep_journal.specs.declared.taken.Taken.{Taken}

-- the version has the root, and the rule book refuses it, with the least instance for which it waits
abbrev pub IsStill : Standing → Option Blocked → Type 0
IsStill s None = Unit {0}
IsStill s (Some b) = (numbered_in s.version b.root ≡ None) × Refuses s.faults s.me s.state (Executes b.root) (rules.NotCommitted b.missing)

-- the root of an execution
abbrev pub root_of : Happening → Option ℕ
root_of (Propose client request command seen named) = None
root_of (Handle b) = None
root_of (GiveUp i) = None
root_of (Recover i) = None
root_of (Execute i) = Some i

-- the root that was refused last is asked again, with a mark, and waits for i
abbrev pub IsKnown : Option Blocked → Option ℕ → Option Mark → ℕ → Type 0
IsKnown last root mark i = (b : Blocked) × (m : Mark) × (last ≡ Some b) × (root ≡ Some b.root) × (mark ≡ Some m) × (i ≡ b.missing)

-- what is left of the last refusal by an event that was taken: nothing, unless it was an execution
abbrev pub kept_by : Option ℕ → Option Blocked → Option Blocked
kept_by None last = None
kept_by (Some root) last = last

-- what is remembered of the last refusal and of a step: what the event leaves, or the step's own refusal
abbrev pub IsRemembered : Option Blocked → Option ℕ → Result Taken StepFault → Option Blocked → Type 0
IsRemembered last root (Ok t) now = now ≡ kept_by root last
IsRemembered last root (Err fault) now = (now ≡ last) ⊎ ((b : Blocked) × (root ≡ Some b.root) × (fault ≡ NotCommitted b.missing) × (now ≡ Some b))

-- What became of the lines of a run over rings.
use Rattle.std.specs.Prelude.{◌≡◌, ◌≢◌, ℕ, ◌+◌, ◌≤◌, eqb, cond, List, [], ◌∷◌, ◌++◌, length, All, Contains}
use mathlib.Core.List.{IsPrefix}
use Rattle.ep_host.specs.Tasks.{event_of}
use Rattle.ep_host.specs.declared.task.Task.{Task}
use Rattle.ep_journal.specs.Entries.{journals_of}
use Rattle.ep_journal.specs.Events as journal
use Rattle.ep_journal.specs.declared.step_fault.StepFault.{StepFault}
use Rattle.ep_journal.specs.declared.refusal.Refusal.{Refusal}
use Rattle.ep_journal.specs.declared.refusal.Refusal.TheVariants.{Step}
use Rattle.ep_rules.specs.Journals.{asked_in as asked_in_entries}
use Rattle.ep_rules.specs.Steps.{Event}
use Rattle.ep_rules.specs.declared.receipt.Receipt.{Receipt}
use Rattle.ep_script.specs.Plan.{SectionPlan}
use Rattle.ep_script.specs.declared.agenda_line.AgendaLine.{AgendaLine}
use Rattle.ep_script.specs.declared.agenda_line.AgendaLine.TheVariants.{Propose, GiveUp, Recover}
use Rattle.ep_run.specs.Asking.{asked_in}
use Rattle.ep_run.specs.declared.ran.Ran.{Ran}

-- what becomes of a line: it makes its entry, is refused, or is left undone
pub data Fate : Type 0 where
  made : Fate
  refused : StepFault → Fate
  left : Fate

-- a line, what it asked of its replica, and what became of it
pub record Line : Type 0 where
  pub number : ℕ
  pub replica : ℕ
  pub task : Task
  pub fate : Fate

-- what lines asked, each with its number
abbrev pub asks : List Line → List (ℕ × (ℕ × Task))
asks [] = []
asks (l ∷ ls) = (l.number, (l.replica, l.task)) ∷ asks ls

abbrev pub event_made : Task → Fate → List Event
event_made task made = journal.event_of (event_of task) ∷ []
event_made task (refused fault) = []
event_made task left = []

-- the events of the lines of replica r that made entries, in order
abbrev pub made_at : ℕ → List Line → List Event
made_at r [] = []
made_at r (l ∷ ls) = cond (eqb l.replica r) (event_made l.task l.fate) [] ++ made_at r ls

abbrev pub refusal_of : ℕ → Fate → List (ℕ × Refusal)
refusal_of number made = []
refusal_of number (refused fault) = (number, Step fault) ∷ []
refusal_of number left = []

-- the lines that were refused, in order, each with the cause
abbrev pub refused_in : List Line → List (ℕ × Refusal)
refused_in [] = []
refused_in (l ∷ ls) = refusal_of l.number l.fate ++ refused_in ls

-- each list is a beginning of the next one, and the last of these receipts
abbrev pub AreBeginnings : List (List Receipt) → List Receipt → Type 0
AreBeginnings [] receipts = Unit {0}
AreBeginnings (given ∷ []) receipts = IsPrefix given receipts
AreBeginnings (given ∷ next ∷ later) receipts = IsPrefix given next × AreBeginnings (next ∷ later) receipts

abbrev pub replica_of : AgendaLine → ℕ
replica_of (Propose replica client command spared) = replica
replica_of (GiveUp replica i) = replica
replica_of (Recover replica i) = replica

-- how many of the lines are for replica r
abbrev pub count_for : ℕ → List (ℕ × AgendaLine) → ℕ
count_for r [] = 0
count_for r (l ∷ ls) = cond (eqb (replica_of l.1) r) 1 0 + count_for r ls

-- no section has more lines for one replica
abbrev pub HaveAtMost : ℕ → List SectionPlan → Type 0
HaveAtMost turns sections = (s : SectionPlan) → Contains sections s → (r : ℕ) → count_for r s.lines ≤ turns

-- What became of the lines of these sections, where each section had so many turns: of each replica's lines, those that made entries are what was
-- asked of it, in order, and the refused lines are those that are reported. None is left undone where the turns are as many as a section's lines.
pub record AreDone (turns : ℕ) (sections : List SectionPlan) (ran : Ran) : Type 0 where
  pub lines : List Line
  -- the receipts that had been given before each section
  pub before : List (List Receipt)
  pub given : AreBeginnings before ran.receipts.items
  pub sectioned : length before ≡ length sections
  pub asked : asks lines ≡ asked_in [] sections before
  pub entries : (r : ℕ) → asked_in_entries (journals_of ran.finished.journals r) ≡ made_at r lines
  pub reported : ran.refused.items ≡ refused_in lines
  pub done : HaveAtMost turns sections → All (λ (l : Line). l.fate ≢ left) lines

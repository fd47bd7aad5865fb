-- What the lines of a section ask of their replicas. Requests are numbered by client, over all replicas.
use Rattle.std.specs.Prelude.{◌≡◌, ℕ, ◌+◌, List, [], ◌∷◌, ◌++◌}
use Rattle.ep_host.specs.declared.task.Task.{Task}
use Rattle.ep_host.specs.declared.task.Task.TheVariants as task
use Rattle.ep_replay.specs.Clients.{times, greatest}
use Rattle.ep_rules.specs.declared.receipt.Receipt.{Receipt}
use Rattle.ep_script.specs.Plan.{SectionPlan}
use Rattle.ep_script.specs.declared.agenda_line.AgendaLine.{AgendaLine}
use Rattle.ep_script.specs.declared.agenda_line.AgendaLine.TheVariants.{Propose, GiveUp, Recover}
use Rattle.ep_run.specs.declared.submission.Submission.{Submission}

-- the replica, and what the line asks of it, where these clients have proposed before, and these receipts were given
abbrev pub asked_of : List ℕ → List Receipt → AgendaLine → ℕ × Task
asked_of proposers receipts (Propose replica client command spared) = (replica, task.Propose client (times client proposers + 1) command (greatest client receipts) spared)
asked_of proposers receipts (GiveUp replica i) = (replica, task.GiveUp i)
asked_of proposers receipts (Recover replica i) = (replica, task.Recover i)

-- the clients that have proposed, the line's included
abbrev pub proposers_after : List ℕ → AgendaLine → List ℕ
proposers_after proposers (Propose replica client command spared) = proposers ++ client ∷ []
proposers_after proposers (GiveUp replica i) = proposers
proposers_after proposers (Recover replica i) = proposers

-- the submission of a line
abbrev pub IsSubmission : List ℕ → List Receipt → ℕ × AgendaLine → Submission → Type 0
IsSubmission proposers receipts line s = (s.line ≡ line.0) × ((s.replica, s.task) ≡ asked_of proposers receipts line.1)

-- a submission for each line, in order
abbrev pub AreSubmissions : List ℕ → List Receipt → List (ℕ × AgendaLine) → List Submission → Type 0
AreSubmissions proposers receipts [] [] = Unit {0}
AreSubmissions proposers receipts [] (s ∷ ss) = ⊥
AreSubmissions proposers receipts (l ∷ ls) [] = ⊥
AreSubmissions proposers receipts (l ∷ ls) (s ∷ ss) = IsSubmission proposers receipts l s × AreSubmissions (proposers_after proposers l.1) receipts ls ss

-- the clients that have proposed, those of the lines included
abbrev pub proposers_of : List ℕ → List (ℕ × AgendaLine) → List ℕ
proposers_of proposers [] = proposers
proposers_of proposers (l ∷ ls) = proposers_of (proposers_after proposers l.1) ls

-- what a section's lines ask, each with its number
abbrev pub asked_by : List ℕ → List Receipt → List (ℕ × AgendaLine) → List (ℕ × (ℕ × Task))
asked_by proposers receipts [] = []
asked_by proposers receipts (l ∷ ls) = (l.0, asked_of proposers receipts l.1) ∷ asked_by (proposers_after proposers l.1) receipts ls

-- the same of sections, before each of which these receipts had been given
abbrev pub asked_in : List ℕ → List SectionPlan → List (List Receipt) → List (ℕ × (ℕ × Task))
asked_in proposers [] before = []
asked_in proposers (s ∷ ss) [] = []
asked_in proposers (s ∷ ss) (given ∷ before) = asked_by proposers given s.lines ++ asked_in (proposers_of proposers s.lines) ss before

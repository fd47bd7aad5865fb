-- A walk over the lines of a script, beside the refusals that its nodes reported.
use Rattle.std.specs.Prelude.{◌≡◌, ℕ, ◌<◌, ◌≤◌, eqb, cond, List, [], ◌∷◌, ◌++◌, length, drop, Option, Some, None, slice_index_or}
use Rattle.ep_host.specs.Node.{Node}
use Rattle.ep_host.specs.Tasks.{Use, refusals_in}
use Rattle.ep_host.specs.declared.task.Task.{Task}
use Rattle.ep_journal.specs.declared.step_fault.StepFault.{StepFault}
use Rattle.ep_journal.specs.declared.refusal.Refusal.{Refusal}
use Rattle.ep_run.specs.Lines.{refused_in}
use Rattle.ep_run.specs.Rings.{without_next, lines_of}
use Rattle.ep_run.specs.declared.cursor.Cursor.{Cursor}

-- what lines that asked for this leave of what each replica has used up
abbrev pub left_after : List (ℕ × (ℕ × Task)) → (ℕ → List Use) → ℕ → List Use
left_after [] uses = uses
left_after (a ∷ asked) uses = left_after asked (without_next a.1.0 uses)

-- why a replica's next line was refused, if it was
abbrev pub next_refusal : List Use → Option StepFault
next_refusal [] = None
next_refusal (u ∷ us) = u.refusal

-- the fault of the first of these refusals, if it is of the task at this place
abbrev pub fault_at : ℕ → List (ℕ × StepFault) → Option StepFault
fault_at place [] = None
fault_at place (r ∷ rs) = cond (eqb r.0 place) (Some r.1) None

-- the walk has come to this at a node: its unreported refusals are those among what it uses up from here on
abbrev pub IsAt : Cursor → List (ℕ × StepFault) → List Use → Type 0
IsAt c refused uses = drop c.reported refused ≡ refusals_in c.place uses

-- the same at each node; no other replica has used up anything
pub record AreAt (cursors : List Cursor) (nodes : List Node) (uses : ℕ → List Use) : Type 0 where
  pub at : (i : ℕ) (c : Cursor) (d : Node) → i < length nodes → IsAt (slice_index_or cursors i c) (slice_index_or nodes i d).refused (uses i)
  pub others : (i : ℕ) → length nodes ≤ i → uses i ≡ []

-- a walk over lines that asked for this lists those that were refused, and has then come to what these lines leave
pub record Lists (asked : List (ℕ × (ℕ × Task))) (nodes : List Node) (cursors cursors' : List Cursor) (listed listed' : List (ℕ × Refusal)) : Type 0 where
  pub reported : (uses : ℕ → List Use) → AreAt cursors nodes uses → listed' ≡ listed ++ refused_in (lines_of asked uses)
  pub rest : (uses : ℕ → List Use) → AreAt cursors nodes uses → AreAt cursors' nodes (left_after asked uses)

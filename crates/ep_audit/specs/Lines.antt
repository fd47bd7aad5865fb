-- The lines of a history, one for each command at its first execution.
use Rattle.std.specs.Prelude.{ℕ, cond, List, [], ◌∷◌, ◌++◌, Option, Some, None, filter}
use Rattle.ep_base.specs.Sameness.{is_noop}
use Rattle.ep_base.specs.declared.decree.Decree.{Decree}
use Rattle.ep_base.specs.declared.reply.Reply.{Reply}
use Rattle.ep_base.specs.declared.reply.Reply.TheVariants.{Absent}
use Rattle.ep_base.specs.declared.reply.Answer.{Answer}
use Rattle.ep_base.specs.declared.reply.Answer.TheVariants.{Lost, Replied}
use Rattle.ep_rules.specs.History.{is_new}
use Rattle.ep_rules.specs.Journals.{Scheduled}
use Rattle.ep_rules.specs.Steps.{order_of}
use Rattle.ep_audit.specs.declared.happening.Happening.{Happening}

-- the reply that an answer has; absent where the proposal was lost
abbrev pub reported_by : Answer → Reply
reported_by Lost = Absent
reported_by (Replied r) = r

-- the line of i where this is agreed on; none where it is a no-op
abbrev pub line_at : ℕ → Answer → Option Decree → List Happening
line_at i answer None = []
line_at i answer (Some x) = cond (is_noop x.command) [] (record { instance = i; command = x.command; reply = reported_by answer } ∷ [])

module _ (agreed : ℕ → Option Decree) where
  -- the line of i where it wasn't seen
  abbrev pub line_of : List ℕ → ℕ → Answer → List Happening
  line_of seen i answer = cond (is_new seen i) (line_at i answer (agreed i)) []

  -- the lines of executions whose instances weren't seen before them
  abbrev pub lines_of : List ℕ → List (ℕ × Answer) → List Happening
  lines_of seen [] = []
  lines_of seen (d ∷ ds) = line_of seen d.0 d.1 ++ lines_of seen ds

  -- the lines of a schedule, after those seen
  abbrev pub lines_in : List ℕ → List Scheduled → List Happening
  lines_in seen [] = []
  lines_in seen (a ∷ schedule) = lines_of seen a.entry.done ++ lines_in (seen ++ filter (is_new seen) (order_of a.entry.done)) schedule

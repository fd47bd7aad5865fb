-- What journals say, as the code computes it.
use Rattle.std.specs.Prelude.{◌≡◌, ℕ, List, [], ◌∷◌, ◌++◌, map}
use Rattle.ep_base.specs.Places.{Has}
use Rattle.ep_base.specs.Commands.{Command}
use Rattle.ep_base.specs.declared.reply.Answer.{Answer}
use Rattle.ep_base.specs.declared.reply.Reply.{Reply}
use Rattle.ep_rules.specs.Journals.{Journals, Scheduled, IsSchedule}
use Rattle.ep_rules.specs.Merging.{Merges}
use Rattle.ep_rules.specs.OneMap.{Contents, Store, replies, after_commands}
use Rattle.ep_rules.specs.Steps.{order_of}
use Rattle.ep_rules.specs.Verdicts.{command_at, history_of, IsTable}
use Rattle.ep_rules.specs.Worlds.{In}
use Rattle.ep_audit.specs.declared.happening.Happening.{Happening}
use Rattle.ep_audit.specs.Closings.{operations_in, IsClosing}
use Rattle.ep_audit.specs.Lines.{reported_by}
use Rattle.ep_audit.specs.declared.summary.Summary.{Summary}
use Rattle.ep_audit.specs.declared.verdict.Verdict.{Verdict}

-- the replica of each entry, with the entry's number
abbrev pub places_of : List Scheduled → List (ℕ × ℕ)
places_of [] = []
places_of (a ∷ schedule) = (a.replica, a.entry.number) ∷ places_of schedule

abbrev pub instances_in : List Happening → List ℕ
instances_in [] = []
instances_in (h ∷ hs) = h.instance ∷ instances_in hs

abbrev pub commands_in : List Happening → List Command
commands_in [] = []
commands_in (h ∷ hs) = h.command ∷ commands_in hs

abbrev pub replies_in : List Happening → List Reply
replies_in [] = []
replies_in (h ∷ hs) = h.reply ∷ replies_in hs

-- the first entry of a schedule that executes i answers this
pub record AnswersFirst (schedule : List Scheduled) (i : ℕ) (answer : Answer) : Type 0 where
  pub before : List Scheduled
  pub first : Scheduled
  pub rest : List Scheduled
  pub split : before ++ (first ∷ rest) ≡ schedule
  pub new : (a : Scheduled) → In a before → ¬ Has (order_of a.entry.done) i
  pub done : In (i, answer) first.entry.done

-- the history of a schedule: each command once, at its first execution, no-ops left out, with the reply that this gave; these are the replies of one map, from
-- base on, where the journals match
pub record IsHistory (base : Store) (f : ℕ) (journal : Journals) (schedule : List Scheduled) (lines : List Happening) : Type 0 where
  pub instances : instances_in lines ≡ history_of (command_at base f journal) schedule
  pub commands : commands_in lines ≡ map (command_at base f journal) (instances_in lines)
  pub reported : (h : Happening) → In h lines → (answer : Answer) × AnswersFirst schedule h.instance answer × (reported_by answer ≡ h.reply)
  pub replies : Merges base f journal schedule → replies_in lines ≡ replies base (commands_in lines)

-- what a verdict says besides its schedule
abbrev pub summary_of : Verdict → Summary
summary_of v = record { committed = v.committed; history = v.history; closing = v.closing }

-- all that the journals of replicas that open with the map base commit, the history of their schedule, and its first seal
pub record IsSummary (base : Store) (f : ℕ) (journal : Journals) (summary : Summary) : Type 0 where
  pub order : List Scheduled
  pub scheduled : IsSchedule journal order
  pub committed : IsTable base f journal summary.committed.items
  pub history : IsHistory base f journal order summary.history.items
  pub closing : IsClosing journal (operations_in summary.history.items) summary.closing

-- and the schedule
pub record IsVerdict (base : Store) (f : ℕ) (journal : Journals) (verdict : Verdict) : Type 0 where
  pub says : IsSummary base f journal (summary_of verdict)
  pub schedule : verdict.schedule.items ≡ places_of says.order

-- what the keys have after all of these lines, from base on: a seal closes the map, so what comes after it changes nothing
abbrev pub left_by : Store → List Happening → Contents
left_by base lines = (after_commands base (commands_in lines)).contents

-- what they have after all of the verdict's history
abbrev pub left_after : Store → Verdict → Contents
left_after base verdict = left_by base verdict.history.items

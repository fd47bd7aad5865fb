-- What a file of trace events has.
use Rattle.std.specs.Prelude.{◌≡◌, ℕ, zero, suc, List, [], ◌++◌, codes}
use Rattle.ep_base.specs.Quorums.{size}
use Rattle.ep_journal.specs.Entries.{Collected}
use Rattle.ep_view.specs.Handled.{is_handled}
use Rattle.ep_view.specs.Shown.{IsInOrder}
use Rattle.ep_view.specs.Walks.{reported_at}
use Rattle.ep_view.specs.declared.selection.Selection.{Selection}
use Rattle.ep_view.specs.TraceEvents.{entry_events, process_text, first_event, edition_event}

-- the processes of the replicas below n
abbrev pub processes : ℕ → List ℕ
processes zero = []
processes (suc n) = processes n ++ process_text n

unfoldable pub opening : ℕ → List ℕ
opening n = first_event ++ processes n

-- the processes of n replicas, the edition, and these events
abbrev pub file_text : ℕ → List ℕ → List ℕ → List ℕ
file_text n edition events = opening n ++ edition ++ events ++ codes "\n]}\n"

-- the file has the journals' edition, and the events of each entry that is asked for, in the order of the journals' schedule
pub record IsTraceFile (c : Collected) (part : Selection) (text : List ℕ) : Type 0 where
  pub all : List (ℕ × ℕ)
  pub ordered : IsInOrder c all
  pub is : text ≡ file_text (size c.faults) (edition_event c.version c.opening) (reported_at (entry_events (is_handled c)) part c all)

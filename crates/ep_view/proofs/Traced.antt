-- What a file has, where the frames that are handled were found out.
use Rattle.std.proofs.Common.{◌≡◌, ℕ, Bool, List, ap, ◌∙◌}
use Rattle.ep_base.specs.Quorums.{size}
use Rattle.ep_journal.specs.Entries.{Collected}
use Rattle.ep_view.specs.Handled.{is_in, is_handled, AreHandled}
use Rattle.ep_view.specs.Shown.{IsInOrder}
use Rattle.ep_view.specs.declared.handled.Handled.{Handled}
use Rattle.ep_view.specs.declared.selection.Selection.{Selection}
use Rattle.ep_view.specs.TraceEvents.{entry_events, edition_event}
use Rattle.ep_view.specs.TraceFiles.{file_text, IsTraceFile}
use Rattle.ep_view.specs.Walks.{reported_at}

pub is_traced :
    (c : Collected) (part : Selection) (h : Handled) (all : List (ℕ × ℕ)) (text : List ℕ) → AreHandled c h → IsInOrder c all →
    text ≡ file_text (size c.faults) (edition_event c.version c.opening) (reported_at (entry_events (is_in h)) part c all) → IsTraceFile c part text
is_traced c part h all text are ordered is =
    record { all = all; ordered = ordered; is = is ∙ ap (λ (f : List ℕ → Bool). file_text (size c.faults) (edition_event c.version c.opening) (reported_at (entry_events f) part c all)) (λ i b. are b i) }

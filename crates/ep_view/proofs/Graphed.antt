-- What a graph has, where its instances and the history were found out.
use Rattle.std.proofs.Common.{◌≡◌, ℕ, List, refl, ap, ◌∙◌}
use Rattle.ep_audit.specs.Verdicts.{IsSummary}
use Rattle.ep_audit.specs.declared.happening.Happening.{Happening}
use Rattle.ep_audit.specs.declared.summary.Summary.{Summary}
use Rattle.ep_journal.specs.Entries.{Collected, journals_of}
use Rattle.ep_journal.specs.Openings.{opens}
use Rattle.ep_view.specs.Graphs.{begun, whole_text, IsHistoryOf, IsGraph}
use Rattle.ep_view.specs.declared.selection.Selection.{Selection}

pub is_history_of : (c : Collected) (s : Summary) → IsSummary (opens c.opening) c.faults (journals_of c) s → IsHistoryOf c s.history.items
is_history_of c s is = record { summary = s; is_summary = is; is = refl }

pub is_graph :
    (c : Collected) (part : Selection) (kept : List ℕ) (history : List Happening) (text : List ℕ) → kept ≡ begun part c → IsHistoryOf c history →
    text ≡ whole_text c history kept → IsGraph c part text
is_graph c part kept history text are reported is = record { history = history; is_history = reported; is = is ∙ ap (whole_text c history) are }

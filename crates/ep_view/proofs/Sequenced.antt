-- What a sequence diagram has, where the frames that are handled were found out.
use Rattle.std.proofs.Common.{◌≡◌, ℕ, Bool, List, ap, ◌∙◌}
use Rattle.ep_base.specs.Quorums.{size}
use Rattle.ep_journal.specs.Entries.{Collected}
use Rattle.ep_view.specs.Handled.{is_in, is_handled, AreHandled}
use Rattle.ep_view.specs.Shown.{IsInOrder}
use Rattle.ep_view.specs.declared.handled.Handled.{Handled}
use Rattle.ep_view.specs.declared.selection.Selection.{Selection}
use Rattle.ep_view.specs.Sequences.{edition_note, entry_lines, sequence_text, IsSequence}
use Rattle.ep_view.specs.Walks.{reported_at}

pub is_sequence :
    (c : Collected) (part : Selection) (h : Handled) (all : List (ℕ × ℕ)) (text : List ℕ) → AreHandled c h → IsInOrder c all →
    text ≡ sequence_text (size c.faults) (edition_note c.version c.opening) (reported_at (entry_lines (is_in h)) part c all) → IsSequence c part text
is_sequence c part h all text are ordered is =
    record { all = all; ordered = ordered; is = is ∙ ap (λ (f : List ℕ → Bool). sequence_text (size c.faults) (edition_note c.version c.opening) (reported_at (entry_lines f) part c all)) (λ i b. are b i) }

-- What is shown, where the frames that are handled were found out.
use Rattle.std.proofs.Common.{◌≡◌, ◌<◌, ◌≤◌, ◌+◌, ◌++◌, ℕ, Bool, length, length-append, append-nil, List, [], ◌∷◌, ap, ◌∙◌, arith}
use Rattle.ep_journal.specs.Entries.{Collected}
use Rattle.ep_view.specs.Editions.{edition_line}
use Rattle.ep_view.specs.declared.selection.Selection.{Selection}
use Rattle.ep_view.specs.Handled.{is_in, is_handled, AreHandled}
use Rattle.ep_view.specs.Shown.{entry_line, none_kept, or_none, IsInOrder, IsShown}
use Rattle.ep_view.specs.Walks.{reported_at}
use Rattle.ep_view.specs.declared.handled.Handled.{Handled}

pub is_shown :
    (c : Collected) (part : Selection) (h : Handled) (all : List (ℕ × ℕ)) (text : List ℕ) → AreHandled c h → IsInOrder c all →
    text ≡ edition_line c.version c.opening ++ or_none (length all) (reported_at (entry_line (is_in h)) part c all) → IsShown c part text
is_shown c part h all text are ordered lines =
    record { all = all; ordered = ordered; lines = lines ∙ ap (λ (f : List ℕ → Bool). edition_line c.version c.opening ++ or_none (length all) (reported_at (entry_line f) part c all)) (λ i b. are b i) }

-- lines were appended, so some entry is kept
pub some_kept :
    (n : ℕ) (before reported after : List ℕ) → after ≡ before ++ reported → length before < length after → after ≡ before ++ or_none n reported
some_kept n before [] after is more = absurd (let same : length after ≡ length before = ap length (is ∙ append-nil before) in omega arith)
some_kept n before (b ∷ bs) after is more = is

-- none was, and that is appended
pub none_is_kept :
    (n : ℕ) (before reported after all : List ℕ) → after ≡ before ++ reported → length after ≤ length before → all ≡ after ++ none_kept n →
    all ≡ before ++ or_none n reported
none_is_kept n before [] after all is few next = next ∙ ap (λ (t : List ℕ). t ++ none_kept n) (is ∙ append-nil before)
none_is_kept n before (b ∷ bs) after all is few next =
    absurd (let len : length after ≡ length before + length (b ∷ bs) = ap length is ∙ length-append before (b ∷ bs) in omega arith)

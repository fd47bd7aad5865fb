-- What is shown of journals.
use Rattle.std.specs.Prelude.{◌≡◌, ℕ, Bool, cond, eqb, length, List, [], ◌∷◌, ◌++◌, codes, decimal}
use Rattle.ep_journal.specs.Entries.{Collected, journals_of}
use Rattle.ep_journal.specs.declared.entry.Entry.{Entry}
use Rattle.ep_rules.specs.Journals.{Scheduled, IsSchedule}
use Rattle.ep_audit.specs.Verdicts.{places_of}
use Rattle.ep_view.specs.Editions.{edition_line}
use Rattle.ep_view.specs.declared.selection.Selection.{Selection}
use Rattle.ep_view.specs.Handled.{is_handled}
use Rattle.ep_view.specs.Lines.{entry_text}
use Rattle.ep_view.specs.Walks.{reported_at}

-- the line of an entry, where `handled` is the test for frames that some entry handles
abbrev pub entry_line : (List ℕ → Bool) → ℕ → Entry → List ℕ
entry_line handled r e = entry_text handled r e ++ codes "\n"

-- that of so many entries none is kept, if there are any
abbrev pub none_kept : ℕ → List ℕ
none_kept n = cond (eqb n 0) [] (codes "0 of " ++ decimal n ++ codes " entries\n")

-- a text, or where it is empty that none of so many entries is kept
abbrev pub or_none : ℕ → List ℕ → List ℕ
or_none n [] = none_kept n
or_none n (b ∷ bs) = b ∷ bs

-- these are all entries of the journals, each as its replica and number, in the order of their schedule: by stamp, and then by replica
pub record IsInOrder (c : Collected) (all : List (ℕ × ℕ)) : Type 0 where
  pub order : List Scheduled
  pub scheduled : IsSchedule (journals_of c) order
  pub places : all ≡ places_of order

-- The text begins with the line of the journals' edition, if there is one. It has a line for each entry that is asked for, in the order of the journals'
-- schedule, or says that there is none. In it a frame is reported as never handled exactly where no entry of any journal handles it.
pub record IsShown (c : Collected) (part : Selection) (text : List ℕ) : Type 0 where
  pub all : List (ℕ × ℕ)
  pub ordered : IsInOrder c all
  pub lines : text ≡ edition_line c.version c.opening ++ or_none (length all) (reported_at (entry_line (is_handled c)) part c all)

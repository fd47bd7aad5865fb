-- What is reported of the entries of journals that a part keeps, where `reported` is that of an entry of a replica.
use Rattle.std.specs.Prelude.{ℕ, cond, List, [], ◌∷◌, ◌++◌, Option, Some, None}
use Rattle.ep_journal.specs.Entries.{Collected, entries_at}
use Rattle.ep_journal.specs.declared.entry.Entry.{Entry}
use Rattle.ep_audit.specs.Lookups.{entry_at}
use Rattle.ep_view.specs.Kept.{keeps}
use Rattle.ep_view.specs.declared.selection.Selection.{Selection}

module _ (reported : ℕ → Entry → List ℕ) (part : Selection) where
  -- what is reported of an entry, if it is asked for
  abbrev pub reported_of : ℕ → Option Entry → List ℕ
  reported_of r None = []
  reported_of r (Some e) = cond (keeps part r e) (reported r e) []

  -- what is reported of the entries at these places, each as its replica and number
  abbrev pub reported_at : Collected → List (ℕ × ℕ) → List ℕ
  reported_at c [] = []
  reported_at c (p ∷ ps) = reported_of p.0 (entry_at (entries_at c p.0) p.1) ++ reported_at c ps

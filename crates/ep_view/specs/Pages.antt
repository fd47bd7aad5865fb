-- What a page has.
use Rattle.std.specs.Prelude.{◌≡◌, ℕ, List, ◌++◌}
use Rattle.ep_journal.specs.Entries.{Collected}
use Rattle.ep_json.specs.Strings.{string_text, IsString}
use Rattle.ep_view.specs.Shown.{IsShown}
use Rattle.ep_view.specs.declared.selection.Selection.{Selection}

module _ (head tail : List ℕ) where
  -- words as a string between the fixed parts
  abbrev pub page_text : List ℕ → List ℕ
  page_text shown = head ++ string_text shown ++ tail

  -- what is shown of the part of the journals stands in the page, as a string that ends no script
  pub record IsPage (c : Collected) (part : Selection) (text : List ℕ) : Type 0 where
    pub shown : List ℕ
    pub is_shown : IsShown c part shown
    pub is : text ≡ page_text shown
    pub harmless : IsString shown

-- What the program prints of a run as JSON: one object, and a line feed.
use Rattle.std.specs.Prelude.{ℕ, List, [], ◌∷◌, ◌++◌, Option, Some, None, codes, decimal, map}
use Rattle.ep_audit.specs.Faults.{fault_text}
use Rattle.ep_audit.specs.declared.happening.Happening.{Happening}
use Rattle.ep_base.specs.declared.decree.Decree.{Decree}
use Rattle.ep_json.specs.Strings.{string_text}
use Rattle.ep_json.specs.Values.{array, member, object}
use Rattle.ep_report.specs.Lives.{Life}
use Rattle.ep_journal.specs.declared.refusal.Refusal.{Refusal}
use Rattle.ep_report_json.specs.Items.{closing_value, committed_item, contents_value, history_items, receipt_item, refused_item}
use Rattle.ep_report_json.specs.Members.{fault_members}
use Rattle.ep_rules.specs.Audits.{Fault}
use Rattle.ep_rules.specs.declared.receipt.Receipt.{Receipt}

-- the first member says what the verdict is
abbrev pub verdict_object : List ℕ → List (List ℕ) → List ℕ
verdict_object verdict members = object (member (codes "verdict") (string_text verdict) ∷ members) ++ codes "\n"

-- in version 3
abbrev pub generation_members : Option Life → List (List ℕ)
generation_members None = []
generation_members (Some l) = member (codes "generation") (decimal l.generation) ∷ member (codes "since") (decimal l.base_stamp) ∷ []

-- behind the history
abbrev pub closing_members : Option Life → List (List ℕ)
closing_members None = []
closing_members (Some l) = member (codes "closed") (closing_value l.closing) ∷ member (codes "contents") (contents_value l.contents) ∷ []

-- what the audit accepts: in version 3 which generation it is, what is committed, the history, in version 3 the first seal and what the keys then have, and
-- the receipts
abbrev pub accepted_members : Option Life → List (ℕ × Decree) → List Happening → List Receipt → List (List ℕ)
accepted_members life committed history receipts =
    generation_members life
    ++ (member (codes "committed") (array (map committed_item committed)) ∷ [])
    ++ (member (codes "history") (array (history_items 1 history)) ∷ [])
    ++ closing_members life
    ++ (member (codes "receipts") (array (map receipt_item receipts)) ∷ [])

-- the events that were refused
abbrev pub refused_members : List (ℕ × Refusal) → List (List ℕ)
refused_members refused = member (codes "refused") (array (map refused_item refused)) ∷ []

-- the frames that a run lost
abbrev pub lost_members : ℕ → List (List ℕ)
lost_members lost = member (codes "lost") (decimal lost) ∷ []

abbrev pub accepted_json : Option Life → List (ℕ × Decree) → List Happening → List Receipt → List ℕ
accepted_json life committed history receipts = verdict_object (codes "accepted") (accepted_members life committed history receipts)

-- of a replay
abbrev pub replay_json : Option Life → List (ℕ × Decree) → List Happening → List Receipt → List (ℕ × Refusal) → List ℕ
replay_json life committed history receipts refused =
    verdict_object (codes "accepted") (accepted_members life committed history receipts ++ refused_members refused)

-- of a run in threads
abbrev pub run_json : Option Life → List (ℕ × Decree) → List Happening → List Receipt → List (ℕ × Refusal) → ℕ → List ℕ
run_json life committed history receipts refused lost =
    verdict_object (codes "accepted") (accepted_members life committed history receipts ++ refused_members refused ++ lost_members lost)

-- the audit's refusal
abbrev pub refusal_json : Fault → List ℕ
refusal_json fault = verdict_object (codes "refused") (fault_members (fault_text fault))

-- a generation of a chain: how many instances it commits, and how many commands its history has
abbrev pub link_members : Life → ℕ → ℕ → List (List ℕ)
link_members l committed history =
    generation_members (Some l)
    ++ (member (codes "committed") (decimal committed) ∷ member (codes "history") (decimal history) ∷ [])
    ++ closing_members (Some l)

abbrev pub link_item : Life → ℕ → ℕ → List ℕ
link_item l committed history = object (link_members l committed history)

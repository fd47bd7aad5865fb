use Rattle.std.proofs.Common.{ℕ, List, [], ◌∷◌, ◌++◌, map}
use Rattle.std.specs.Option.{option_copied}
use Rattle.std.specs.Prelude.{codes}
use Rattle.ep_json.proofs.Joined.{joined_more}
use Rattle.ep_json.specs.Values.{array, member}
use Rattle.ep_report_json.specs.Items.{committed_item, history_items, receipt_item}
use Rattle.ep_report_json.specs.JsonReports.{closing_members, generation_members}
use Rattle.ep_report_json.proofs.reports.push_found.Goals as goal

pub returns : goal.returns
returns c =
    let o : List ℕ = c.args.text.now.items in
    let g : List (List ℕ) = generation_members (option_copied c.args.found.now.life) in
    let p : List (List ℕ) = (member (codes "committed") (array (map committed_item c.args.found.now.committed.now)) ∷ []) in
    let q : List (List ℕ) = (member (codes "history") (array (history_items 1 c.args.found.now.history.now)) ∷ []) in
    let r : List (List ℕ) = closing_members (option_copied c.args.found.now.life) in
    let s : List (List ℕ) = (member (codes "receipts") (array (map receipt_item c.args.found.now.receipts.now)) ∷ []) in
    joined_more o c.push_closing_members.new.text.items c.push_receipts.new.text.items (g ++ p ++ q ++ r) s
    (joined_more o c.push_history.new.text.items c.push_closing_members.new.text.items (g ++ p ++ q) r
    (joined_more o c.push_committed.new.text.items c.push_history.new.text.items (g ++ p) q
    (joined_more o c.push_generation_members.new.text.items c.push_committed.new.text.items g p c.in_ok-push_generation_members.ensures c.in_ok-push_committed.ensures)
    c.in_ok-push_history.ensures)
    c.in_ok-push_closing_members.ensures)
    c.in_ok-push_receipts.ensures

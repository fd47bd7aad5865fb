use Rattle.std.proofs.Common.{ℕ, List, [], ◌∷◌}
use Rattle.std.specs.Prelude.{codes}
use Rattle.ep_json.proofs.Joined.{array_reported}
use Rattle.ep_json.specs.Values.{array, member}
use Rattle.ep_report_json.proofs.Objects.{whole}
use Rattle.ep_report_json.specs.Chains.{link_values}
use Rattle.ep_report_json.proofs.chains.chain_json.Goals as goal

pub returns : goal.returns
returns c =
    let items : List (List ℕ) = link_values c.args.links.now c.args.verdicts.now in
    let start : List ℕ = c.in_ok-text.text.items in
    let end : List ℕ = c.push.new.self.items in
    whole start end c.push_end.new.text.items (codes "accepted") (member (codes "generations") (array items) ∷ [])
    c.in_ok-text.ensures
    (array_reported start c.push_array_start.new.text.items c.push_link_values.new.text.items end (codes "generations") items c.in_ok-push_array_start.ensures c.in_ok-push_link_values.ensures c.in_ok-push.ensures.items)
    c.in_ok-push_end.ensures

use Rattle.ep_audit.proofs.Differing.{got, reported_of}
use Rattle.std.proofs.Common.{option_copied, ap, ◌∙◌}
use Rattle.std.specs.FinMap.{entries}
use Rattle.ep_rules.specs.OneMap.{Contents}
use Rattle.ep_audit.proofs.difference.first_difference.Goals as goal

pub returns : goal.returns
returns c =
    reported_of c.args.one.now c.args.other.now c.entries-entries.result.now c.entries-others.result.now c.same_start-place.result (option_copied c.get.result) (option_copied c.get-2.result) c.lesser_key.result (c.entries-entries.ensures ∙ ap (λ (m : Contents). entries m) c.in_ok-one.ensures) (c.entries-others.ensures ∙ ap (λ (m : Contents). entries m) c.in_ok-other.ensures)
    (got c.entries-entries.result.now c.same_start-place.result c.get.result c.get.ensures.lookup.0 c.get.ensures.lookup.1) (got c.entries-others.result.now c.same_start-place.result c.get-2.result c.get-2.ensures.lookup.0 c.get-2.ensures.lookup.1)
    c.same_start-place.ensures.ended c.same_start-place.ensures.left c.lesser_key.ensures

use Rattle.std.proofs.Common.{rules, ◌≤◌, ℕ, List, ◌∙◌, length, sym, arith}
use Rattle.std.proofs.lemmas.List.{at_drop_all}
use Rattle.ep_report.specs.Parts.{more_parts}
use Rattle.ep_report.proofs.Joining.{parts_after}
use Rattle.ep_report.proofs.parts.push_parts.Goals as goal

pub returns : goal.returns
returns c =
    let o : List ℕ = c.args.text.now.items in
    let over : length c.args.parts.now ≤ c.loop-part.part-index = grind (rules, arith, c.loop-part-test.false) in
    sym (at_drop_all (more_parts c.loop-part.text.items) c.args.parts.now c.loop-part.part-index over) ∙ c.loop-part.invariant ∙ parts_after o c.args.parts.now

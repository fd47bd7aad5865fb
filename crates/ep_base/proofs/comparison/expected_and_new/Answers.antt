use Rattle.std.proofs.Common.{◌-◌, Some, None, length, take, drop, subst}
use Rattle.std.proofs.lemmas.List.{take_rest}
use Rattle.ep_base.specs.CommandParts.{IsPartLen}
use Rattle.ep_base.proofs.Runs.{second_there}
use Rattle.ep_base.proofs.comparison.expected_and_new.Goals as goal

absent : {X : Type 0} → goal.In-None-part_len → X
absent c =
    let b = c.args.body.now in
    let n = c.in-Some.first in
    let some : IsPartLen b (Some n) = subst (λ r. IsPartLen b r) c.in-Some.is c.part_len.ensures in
    let none : IsPartLen (take (length b - n) (drop n b)) None = subst (λ r. IsPartLen (take (length b - n) (drop n b)) r) c.in-None-part_len.is c.part_len-in-Some.ensures in
    second_there b (take (length b - n) (drop n b)) n c.requires some (take_rest b n) none

pub returns-in-None-part_len-clause-expected : goal.returns-in-None-part_len-clause-expected
returns-in-None-part_len-clause-expected c = absent c

pub returns-in-None-part_len-clause-new : goal.returns-in-None-part_len-clause-new
returns-in-None-part_len-clause-new c = absent c

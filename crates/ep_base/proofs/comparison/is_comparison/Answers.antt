use Rattle.std.proofs.Common.{◌-◌, Some, None, length, take, drop, subst}
use Rattle.std.proofs.lemmas.List.{take_rest}
use Rattle.ep_base.specs.CommandParts.{IsPartLen}
use Rattle.ep_base.proofs.Runs.{no_second, both_there}
use Rattle.ep_base.proofs.comparison.is_comparison.Goals as goal

pub returns-in-None-part_len : goal.returns-in-None-part_len
returns-in-None-part_len c =
    let b = c.args.body.now in
    let n = c.in-Some.first in
    let some : IsPartLen b (Some n) = subst (λ r. IsPartLen b r) c.in-Some.is c.part_len.ensures in
    let none : IsPartLen (take (length b - n) (drop n b)) None = subst (λ r. IsPartLen (take (length b - n) (drop n b)) r) c.in-None-part_len.is c.part_len-in-Some.ensures in
    no_second b (take (length b - n) (drop n b)) n some (take_rest b n) none

pub returns-in-Some-part_len : goal.returns-in-Some-part_len
returns-in-Some-part_len c =
    let b = c.args.body.now in
    let n = c.in-Some.first in
    let m = c.in-Some-part_len.second in
    let some : IsPartLen b (Some n) = subst (λ r. IsPartLen b r) c.in-Some.is c.part_len.ensures in
    let rest : IsPartLen (take (length b - n) (drop n b)) (Some m) = subst (λ r. IsPartLen (take (length b - n) (drop n b)) r) c.in-Some-part_len.is c.part_len-in-Some.ensures in
    both_there b (take (length b - n) (drop n b)) n m some (take_rest b n) rest

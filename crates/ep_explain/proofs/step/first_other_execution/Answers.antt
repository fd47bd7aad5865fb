use Rattle.std.proofs.Common.{◌≡◌, ◌≤◌, arith, length, subst, ℕ}
use Rattle.std.specs.Prelude.{min}
use Rattle.ep_explain.specs.Steps.{same_execution}
use Rattle.ep_explain.proofs.Differing.{CountsFrom, ended}
use Rattle.ep_explain.proofs.step.first_other_execution.Goals as goal

pub returns : goal.returns
returns c =
    let one = c.args.expected.now in
    let other = c.args.found.now in
    let at : c.loop-place.place ≡ c.min-common.result = omega arith in
    let over : min (length one) (length other) ≤ c.min-common.result = omega (arith, c.min-common.ensures) in
    let front = subst (λ (n : ℕ). CountsFrom same_execution one other n) at c.loop-place.invariant in
    ended same_execution one other _ over front

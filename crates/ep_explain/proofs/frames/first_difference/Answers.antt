use Rattle.std.proofs.Common.{◌≡◌, ◌≤◌, arith, length, subst, ℕ}
use Rattle.std.specs.Prelude.{nat_eq, min}
use Rattle.ep_explain.proofs.Differing.{CountsFrom, ended}
use Rattle.ep_explain.proofs.frames.first_difference.Goals as goal

pub returns : goal.returns
returns c =
    let one = c.args.one.now in
    let other = c.args.other.now in
    let at : c.loop-place.place ≡ c.min-common.result = omega arith in
    let over : min (length one) (length other) ≤ c.min-common.result = omega (arith, c.min-common.ensures) in
    ended nat_eq one other _ over (subst (λ (n : ℕ). CountsFrom nat_eq one other n) at c.loop-place.invariant)

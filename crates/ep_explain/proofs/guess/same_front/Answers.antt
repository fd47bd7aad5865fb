use Rattle.std.proofs.Common.{◌≤◌, arith, length}
use Rattle.std.specs.Prelude.{min}
use Rattle.std.specs.Char.{eq_ignore_ascii_case}
use Rattle.ep_explain.proofs.Differing.{ended}
use Rattle.ep_explain.proofs.guess.same_front.Goals as goal

pub returns-in_default-2 : goal.returns-in_default-2
returns-in_default-2 c =
    let one = c.args.one.now in
    let other = c.args.other.now in
    let place = c.loop-place.place in
    let behind : length other ≤ place = grind (arith, c.get.ensures.lookup.0, c.in_default.is) in
    let over : min (length one) (length other) ≤ place = omega (arith, behind) in
    ended eq_ignore_ascii_case one other place over c.loop-place.invariant

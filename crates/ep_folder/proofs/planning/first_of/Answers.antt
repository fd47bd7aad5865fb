use Rattle.std.proofs.Common.{◌≤◌, ◌-◌, sym, ◌∙◌, arith}
use Rattle.ep_folder.specs.Plans.{first_of}
use Rattle.ep_folder.proofs.Referred.{goes_on}
use Rattle.ep_folder.proofs.planning.first_of.Goals as goal

pub loop-first-preserved : goal.loop-first-preserved
loop-first-preserved c =
    let under : c.loop-first.first ≤ c.args.generation = c.loop-first.invariant.1 in
    let below : c.loop-first.first - 1 ≤ c.args.generation = omega arith in
    (goes_on c.loop-first.first c.args.held.now (first_of c.args.generation c.args.held.now) (sym c.goes_below.ensures ∙ c.loop-first-test.true) c.loop-first.invariant.0, below)

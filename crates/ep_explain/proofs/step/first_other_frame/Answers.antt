use Rattle.std.proofs.Common.{◌≡◌, true, rules}
use Rattle.std.specs.Prelude.{option_copied}
use Rattle.ep_explain.specs.Steps.{same_frame}
use Rattle.ep_explain.proofs.Sending.{one_more}
use Rattle.ep_explain.proofs.step.first_other_frame.Goals as goal

pub loop-place-preserved : goal.loop-place-preserved
loop-place-preserved c =
    let one = c.get.result in
    let other = c.get-in-loop-place.result in
    let is : same_frame (option_copied one) (option_copied other) ≡ true = search rules in
    one_more c.args.expected.now c.args.found.now c.loop-place.place c.loop-place.invariant one other
    c.get.ensures.lookup c.get-in-loop-place.ensures.lookup is

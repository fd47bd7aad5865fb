use Rattle.std.proofs.Common.{sym, ◌∙◌}
use Rattle.ep_audit.proofs.Differing.{passed_more}
use Rattle.ep_audit.proofs.difference.same_start.Goals as goal

pub loop-place-preserved : goal.loop-place-preserved
loop-place-preserved c = passed_more c.args.entries.now c.args.others.now c.loop-place.place (sym c.is_same_at.ensures ∙ c.loop-place-test.true) ∙ c.loop-place.invariant

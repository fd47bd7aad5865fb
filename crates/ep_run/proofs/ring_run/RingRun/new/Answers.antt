use Rattle.std.proofs.Common.{◌∙◌, ap}
use Rattle.ep_run.specs.Rings.{begun_of, entry_counts}
use Rattle.ep_run.proofs.Running.{has_begun}
use Rattle.ep_run.proofs.ring_run.RingRun.new.Goals as goal

pub returns-clause-run : goal.returns-clause-run
returns-clause-run c = λ turns. has_begun c.args.capacity (begun_of c.args.head.now) turns _ c.in_ok-nodes.ensures.host c.in_ok-nodes.ensures.fresh c.in_ok-nodes.ensures.start c.new-2.ensures.items c.new.ensures (c.in-Ok.ensures ∙ ap entry_counts c.deref.ensures.value)

use Rattle.ep_trace.proofs.Tracing.{traced_if}
use Rattle.ep_trace.proofs.traced.trace.Goals as goal

pub returns : goal.returns
returns c =
    traced_if c.args.script.now c.in_ok-ended.ended c.reported.result c.in_ok-ended.ensures.value c.in_ok-ended.ensures.version c.in_ok-ended.ensures.opening c.reported.ensures

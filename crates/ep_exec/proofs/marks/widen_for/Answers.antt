use Rattle.ep_exec.proofs.Marking.{all_within}
use Rattle.ep_exec.proofs.marks.widen_for.Goals as goal

pub returns-clause-slots : goal.returns-clause-slots
returns-clause-slots c = all_within _ _ c.args.list.now c.in_ok-widen.ensures.slot c.top_number-top.ensures.top

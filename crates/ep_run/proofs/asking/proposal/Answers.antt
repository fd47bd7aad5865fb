use Rattle.std.proofs.Common.{refl}
use Rattle.ep_run.proofs.asking.proposal.Goals as goal

pub returns-clause-asked : goal.returns-clause-asked
returns-clause-asked c = λ ps ts are. rw (c.in_ok-known.ensures.requests ps ts are, c.in_ok-known.ensures.seen ps ts are, c.in_ok-command.ensures) refl

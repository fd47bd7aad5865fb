use Rattle.ep_opening.proofs.Unsealed.{only_third}
use Rattle.ep_opening.proofs.closing.learn_closed.Goals as goal

pub returns : goal.returns
returns c =
    only_third c.args.journal.now.version c.args.journal.now.opening c.args.journal.now.faults c.args.journal.now.me c.args.journal.now.entries c.opening-opening.ensures.opens c.entries-entries.ensures.run

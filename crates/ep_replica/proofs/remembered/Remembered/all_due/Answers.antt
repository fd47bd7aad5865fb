use Rattle.ep_replica.proofs.Remembering.{all_due, nothing_fits}
use Rattle.ep_replica.proofs.remembered.Remembered.all_due.Goals as goal

pub returns-clause-all : goal.returns-clause-all
returns-clause-all c = λ k all. all_due k c.in_ok-all.field-0 c.new.result c.args.top c.new.ensures c.in_ok-all.ensures all

pub returns-clause-fits : goal.returns-clause-fits
returns-clause-fits c = nothing_fits c.in_ok-all.field-0 c.new.result c.new.ensures

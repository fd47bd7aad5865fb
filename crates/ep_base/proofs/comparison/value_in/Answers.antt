use Rattle.ep_base.proofs.Runs.{none_at, some_at}
use Rattle.ep_base.proofs.comparison.value_in.Goals as goal

pub returns-then-len-lt5 : goal.returns-then-len-lt5
returns-then-len-lt5 c = none_at c.args.bytes.now c.args.len c.requires.len c.requires.spelled c.if-len-lt5.true

pub returns-else-len-lt5 : goal.returns-else-len-lt5
returns-else-len-lt5 c = some_at c.args.bytes.now c.args.len c.requires.len c.requires.spelled c.if-len-lt5.false

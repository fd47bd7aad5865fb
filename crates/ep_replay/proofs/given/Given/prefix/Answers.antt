use Rattle.std.proofs.Common.{arith}
use Rattle.ep_replay.proofs.Flagging.{all_above_ungiven}
use Rattle.ep_replay.proofs.given.Given.prefix.Goals as goal

pub returns-clause-value : goal.returns-clause-value
returns-clause-value c = λ given are.
    all_above_ungiven c.advance.new.self given c.args.sent c.min.result (omega arith) c.min.ensures
    (c.advance.ensures given are)

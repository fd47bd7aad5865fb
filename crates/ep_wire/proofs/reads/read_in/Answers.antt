use Rattle.std.proofs.Common.{refl}
use Rattle.ep_wire.proofs.Parsed.{given_some, given_none}
use Rattle.ep_wire.proofs.reads.read_in.Goals as goal

pub returns-in-Ok : goal.returns-in-Ok
returns-in-Ok c = given_some _ _ _ _ (c.in-Ok.ensures.bytes c.args.body.now (rw c.new-source.ensures refl))

pub returns-in_ok-at-in-Err : goal.returns-in_ok-at-in-Err
returns-in_ok-at-in-Err c = given_none _ _ _ _ _ c.in_ok-at-in-Err.ensures (c.in-Err.ensures.bytes c.args.body.now (rw c.new-source.ensures refl))

use Rattle.ep_exec.proofs.Entries.{set_at}
use Rattle.ep_exec.proofs.changes.put.Goals as goal

pub returns-in-Ok : goal.returns-in-Ok
returns-in-Ok c = λ m. set_at m _ _ c.args.key.items c.args.value c.in-Ok.ensures.updates.1 c.in-Ok.ensures.updates.3

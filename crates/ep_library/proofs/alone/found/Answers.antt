use Rattle.ep_library.proofs.Auditing.{is_found}
use Rattle.ep_library.proofs.alone.found.Goals as goal

pub returns-in-Ok : goal.returns-in-Ok
returns-in-Ok c = is_found c.args.bytes.now c.in-Ok.bundle.journals c.in-Ok.bundle.receipts.items c.judged.result c.in-Ok.ensures c.judged.ensures

use Rattle.ep_opening.proofs.Refusals.{reported_bytes, reported_refusal}
use Rattle.ep_opening.proofs.reading.read_opening.Goals as goal

pub returns-clause-ok : goal.returns-clause-ok
returns-clause-ok c = reported_bytes c.args.bytes.now c.read_reported.result c.are_bytes.ensures c.read_reported.ensures

pub returns-clause-err : goal.returns-clause-err
returns-clause-err c = reported_refusal c.args.bytes.now c.read_reported.result c.read_reported.ensures

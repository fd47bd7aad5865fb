use Rattle.ep_opening.proofs.WrittenReferences.{reported_bytes, reported_refusal}
use Rattle.ep_opening.proofs.reference_reading.read_reference.Goals as goal

pub returns-clause-ok : goal.returns-clause-ok
returns-clause-ok c = reported_bytes c.args.bytes.now c.read_reported.result c.are_bytes.ensures c.read_reported.ensures

pub returns-clause-err : goal.returns-clause-err
returns-clause-err c = reported_refusal c.args.bytes.now c.read_reported.result c.read_reported.ensures

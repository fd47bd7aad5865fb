use Rattle.ep_bundle.proofs.Readings.{fails, numbered, bytes_number}
use Rattle.ep_bundle.proofs.fields.read_u64.Goals as goal

pub returns-in_err-take-clause-bytes : goal.returns-in_err-take-clause-bytes
returns-in_err-take-clause-bytes g c = λ zs h. fails _ _ _ _ _ _ _ _ (c.in_err-take.ensures.bytes zs h) c.from_residual.ensures.1

pub returns-clause-bytes : goal.returns-clause-bytes
returns-clause-bytes g c = λ zs h. numbered _ 8 _ c.take.new.buf (c.read_u64.result) _ _ (c.in_ok-take.ensures.bytes zs h) (bytes_number 8 c.read_u64.result c.take.new.buf c.read_u64.ensures)

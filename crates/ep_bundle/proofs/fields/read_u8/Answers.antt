use Rattle.std.specs.Prelude.{slice_index_or}
use Rattle.ep_bundle.proofs.Readings.{fails, numbered, one_byte}
use Rattle.ep_bundle.proofs.fields.read_u8.Goals as goal

pub returns-in_err-take-clause-bytes : goal.returns-in_err-take-clause-bytes
returns-in_err-take-clause-bytes g c = λ zs h. fails _ _ _ _ _ _ _ _ (c.in_err-take.ensures.bytes zs h) c.from_residual.ensures.1

pub returns-clause-bytes : goal.returns-clause-bytes
returns-clause-bytes g c = λ zs h. numbered _ 1 _ c.take.new.buf (slice_index_or c.take.new.buf 0 0) _ _ (c.in_ok-take.ensures.bytes zs h) (one_byte c.take.new.buf)

use Rattle.std.proofs.Common.{refl}
use Rattle.ep_wire.proofs.Lengths.{is_bad, is_no_run}
use Rattle.ep_wire.proofs.reading.read_request.Goals as goal

pub returns-in-Err-BadBundle-clause-bytes : goal.returns-in-Err-BadBundle-clause-bytes
returns-in-Err-BadBundle-clause-bytes g c = λ zs h. (refl, is_bad _ _ _ _ _ c.in-Err-BadBundle.field-0-is (c.in-Err-BadBundle.ensures.bytes zs h))

pub returns-in-Err-NotARun-clause-bytes : goal.returns-in-Err-NotARun-clause-bytes
returns-in-Err-NotARun-clause-bytes g c = λ zs h. (refl, is_no_run _ _ _ _ _ _ c.in-Err-NotARun.field-0-is (c.in-Err-NotARun.ensures.bytes zs h))

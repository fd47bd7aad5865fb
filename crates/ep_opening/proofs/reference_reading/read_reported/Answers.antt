use Rattle.std.proofs.Common.{refl}
use Rattle.std.proofs.lemmas.List.{take_rest}
use Rattle.ep_opening.proofs.ReadReferences.{long_enough}
use Rattle.ep_opening.proofs.reference_reading.read_reported.Goals as goal

pub returns : goal.returns
returns c = long_enough c.args.bytes.now _ _ _ c.if-bytes-lt-REFERENCE_LEN.false refl (take_rest c.args.bytes.now _) c.read_body.ensures

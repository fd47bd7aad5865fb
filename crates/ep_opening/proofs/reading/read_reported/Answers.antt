use Rattle.std.proofs.Common.{refl}
use Rattle.std.proofs.lemmas.List.{take_rest}
use Rattle.ep_opening.proofs.Steps.{long_enough}
use Rattle.ep_opening.proofs.reading.read_reported.Goals as goal

pub returns : goal.returns
returns c = long_enough c.args.bytes.now _ _ _ c.if-bytes-lt-LEAST_LEN.false refl (take_rest c.args.bytes.now _) c.read_body.ensures

use Rattle.ep_frame.proofs.Places.{is_field_at}
use Rattle.ep_frame.proofs.frame_field.field_at.Goals as goal

pub returns : goal.returns
returns c = is_field_at c.args.bytes.now c.args.place c.from_magic.result c.from_magic.ensures

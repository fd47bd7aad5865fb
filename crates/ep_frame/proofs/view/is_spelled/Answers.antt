use Rattle.std.proofs.Common.{arith}
use Rattle.ep_frame.specs.Meaning.{version_at, sender_at, origin_at, message_at}
use Rattle.ep_frame.proofs.Frames.{frame_found}
use Rattle.ep_frame.proofs.view.is_spelled.Goals as goal

pub returns-clause-spelled : goal.returns-clause-spelled
returns-clause-spelled c = frame_found c.args.bytes.now (λ i. omega (arith, c.type_inv.bytes i)) c.requires

pub returns-clause-frame : goal.returns-clause-frame
returns-clause-frame c = let b = c.args.bytes.now in (version_at b, sender_at b, origin_at b, message_at b, frame_found b (λ i. omega (arith, c.type_inv.bytes i)) c.requires)

use Rattle.std.proofs.Common.{arith}
use Rattle.ep_frame.proofs.Frames.{frame_long, frame_whole, frame_readable, frame_deps}
use Rattle.ep_frame.proofs.handled.are_known.Goals as goal

pub returns-clause-long : goal.returns-clause-long
returns-clause-long c = frame_long c.args.bytes.now c.requires

pub returns-clause-whole : goal.returns-clause-whole
returns-clause-whole c = frame_whole c.args.bytes.now c.requires

pub returns-clause-readable : goal.returns-clause-readable
returns-clause-readable c = frame_readable c.args.bytes.now (λ i. omega (arith, c.type_inv.bytes i)) c.requires

pub returns-clause-deps : goal.returns-clause-deps
returns-clause-deps c = frame_deps c.args.bytes.now c.requires

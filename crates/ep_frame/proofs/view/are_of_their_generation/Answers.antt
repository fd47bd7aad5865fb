use Rattle.ep_frame.proofs.Faulting.{never}
use Rattle.ep_frame.proofs.view.are_of_their_generation.Goals as goal

pub returns : goal.returns
returns c = never c.args.bytes.now

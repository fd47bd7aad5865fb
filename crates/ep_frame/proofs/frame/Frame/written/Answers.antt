use Rattle.ep_frame.proofs.Sound.{frame_again}
use Rattle.ep_frame.proofs.frame.Frame.written.Goals as goal

pub invariant_of-result : goal.invariant_of-result
invariant_of-result c = frame_again c.requires.0 c.args.bytes c.requires.1 c.requires.2 c.requires.3 c.requires.4

use Rattle.ep_rules.proofs.Played.{frames_were_sent_lem}
use Rattle.ep_rules.proofs.merging.frames_were_sent.Goals as goal

pub returns : goal.returns
returns c = frames_were_sent_lem

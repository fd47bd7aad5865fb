use Rattle.ep_script.proofs.Splitting.{has_more}
use Rattle.ep_script.proofs.words.has_dot.Goals as goal

pub returns : goal.returns
returns c = has_more c.args.word.now c.dot_place.result c.dot_place.ensures.value c.dot_place.ensures.bound

use Rattle.ep_script.proofs.Spelling.{word_law_holds}
use Rattle.ep_script.proofs.word.word_law.Goals as goal

pub returns : goal.returns
returns c = word_law_holds

use Rattle.ep_script.specs.Parts.{is_blank}
use Rattle.ep_script.proofs.Splitting.{found_first, found_none}
use Rattle.ep_script.proofs.words.word_length.Goals as goal

pub returns-in-Some-clause-value : goal.returns-in-Some-clause-value
returns-in-Some-clause-value c = found_first is_blank c.args.line.now c.in-Some.place c.in-Some.ensures.0 c.in-Some.ensures.1

pub returns-in-None-clause-value : goal.returns-in-None-clause-value
returns-in-None-clause-value c = found_none is_blank c.args.line.now c.in-None.ensures

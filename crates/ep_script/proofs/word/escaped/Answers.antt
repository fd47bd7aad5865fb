use Rattle.std.proofs.Common.{rules, ◌∙◌, sym}
use Rattle.ep_script.proofs.Spelling.{escape_once}
use Rattle.ep_script.proofs.word.escaped.Goals as goal

pub returns-clause-byte : goal.returns-clause-byte
returns-clause-byte c = λ done. escape_once done c.args.word.now c.in_ok-high.after.now c.in_ok-low.rest.now c.in_ok-high.high.now c.in_ok-low.low.now c.in-Some.byte (search rules) (search rules) (sym c.byte_of_digits.ensures ∙ c.in-Some.is)

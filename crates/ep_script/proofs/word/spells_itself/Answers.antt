use Rattle.std.proofs.Common.{rules, ◌<◌, length, sym, ◌∙◌}
use Rattle.ep_script.proofs.Spelling.{plain_spells_itself, plain_word}
use Rattle.ep_script.proofs.word.spells_itself.Goals as goal

pub returns-then-not-is_empty-clause-read : goal.returns-then-not-is_empty-clause-read
returns-then-not-is_empty-clause-read c = λ h.
    let some : 0 < length c.args.word.now = grind (rules, c.is_empty.ensures, c.if-not-is_empty.true) in
    plain_spells_itself c.args.word.now some (sym c.are_plain.ensures ∙ h)

pub returns-then-not-is_empty-clause-printed : goal.returns-then-not-is_empty-clause-printed
returns-then-not-is_empty-clause-printed c = λ h.
    let some : 0 < length c.args.word.now = grind (rules, c.is_empty.ensures, c.if-not-is_empty.true) in
    plain_word c.args.word.now some (sym c.are_plain.ensures ∙ h)

use Rattle.std.proofs.Common.{rules, ◌<◌, length}
use Rattle.ep_script.proofs.Splitting.{first_word}
use Rattle.ep_script.proofs.words.next_word.Goals as goal

pub returns-clause-words : goal.returns-clause-words
returns-clause-words c =
    let some : 0 < length c.without_blanks-rest.result.now = grind (rules, c.is_empty.ensures, c.if-is_empty.false) in
    rw (c.split_at.ensures.front, c.split_at.ensures.back)
    (first_word c.args.line.now c.without_blanks-rest.result.now c.word_length.result c.without_blanks-rest.ensures.words c.without_blanks-rest.ensures.first some c.word_length.ensures.value)

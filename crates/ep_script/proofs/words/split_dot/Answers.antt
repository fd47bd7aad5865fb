use Rattle.std.proofs.Common.{rules, arith, ◌≡◌, ◌<◌, length}
use Rattle.ep_script.proofs.Splitting.{after_dot, undotted}
use Rattle.ep_script.proofs.words.split_dot.Goals as goal

pub returns-then-place-word : goal.returns-then-place-word
returns-then-place-word c =
    let all : c.dot_place-place.result ≡ length c.args.word.now = grind (rules, c.if-place-word.true) in
    undotted c.args.word.now c.dot_place-place.result c.dot_place-place.ensures.value all

pub returns : goal.returns
returns c =
    let some : c.dot_place-place.result < length c.args.word.now = grind (rules, arith, c.if-place-word.false, c.dot_place-place.ensures.bound) in
    after_dot c.args.word.now c.dot_place-place.result c.dot_place-place.ensures.value some

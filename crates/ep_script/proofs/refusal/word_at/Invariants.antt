use Rattle.std.proofs.Common.{◌≡◌, ◌-◌, []}
use Rattle.ep_script.specs.Parts.{words_of}
use Rattle.ep_script.specs.Refusals.{word_behind}
use Rattle.ep_script.proofs.refusal.word_at.Given as goal

abbrev pub invariant-loop : goal.invariant-loop
invariant-loop l =
    word_behind l.found (l.place - l.counter) (words_of l.left) ≡ word_behind [] l.place (words_of l.line)

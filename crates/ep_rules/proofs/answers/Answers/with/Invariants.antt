use Rattle.std.proofs.Common.{◌≡◌, ◌∷◌, take}
use Rattle.ep_rules.proofs.answers.Answers.with.Given as goal

abbrev pub invariant-loop-from : goal.invariant-loop-from
invariant-loop-from g l = l.items.items ≡ (l.fn.from, l.fn.value) ∷ take l.from-index l.self

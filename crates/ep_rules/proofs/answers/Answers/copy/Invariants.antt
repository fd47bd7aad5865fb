use Rattle.std.proofs.Common.{◌≡◌, take}
use Rattle.ep_rules.proofs.answers.Answers.copy.Given as goal

abbrev pub invariant-loop-from : goal.invariant-loop-from
invariant-loop-from g l = l.items.items ≡ take l.from-index l.self

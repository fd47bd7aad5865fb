use Rattle.std.proofs.Common.{◌≡◌, drop}
use Rattle.ep_rules.specs.Answers.{answer}
use Rattle.ep_rules.proofs.answers.Answers.get.Given as goal

abbrev pub invariant-loop-from : goal.invariant-loop-from
invariant-loop-from g l = answer (drop l.from-index l.self) l.replica ≡ answer l.self l.replica

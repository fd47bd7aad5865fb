use Rattle.std.proofs.Common.{◌≡◌, drop}
use Rattle.ep_rules.specs.Answers.{answer}
use Rattle.ep_prepare.proofs.choosing.answer_of.Given as goal

abbrev pub invariant-loop-from : goal.invariant-loop-from
invariant-loop-from l = answer (drop l.from-index l.answers) l.replica ≡ answer l.answers l.replica

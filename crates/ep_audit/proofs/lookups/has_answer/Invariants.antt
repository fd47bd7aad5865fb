use Rattle.std.proofs.Common.{◌≡◌, drop}
use Rattle.ep_audit.specs.Lookups.{has_answer}
use Rattle.ep_audit.proofs.lookups.has_answer.Given as goal

abbrev pub invariant-loop-other : goal.invariant-loop-other
invariant-loop-other l = has_answer (drop l.other-index l.done) l.instance l.answer ≡ has_answer l.done l.instance l.answer

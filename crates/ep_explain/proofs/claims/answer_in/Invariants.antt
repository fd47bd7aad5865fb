use Rattle.std.proofs.Common.{◌≡◌, drop}
use Rattle.ep_explain.specs.Claims.{answer_in}
use Rattle.ep_explain.proofs.claims.answer_in.Given as goal

abbrev pub invariant-loop-other : goal.invariant-loop-other
invariant-loop-other l = answer_in (drop l.other-index l.done) l.instance ≡ answer_in l.done l.instance

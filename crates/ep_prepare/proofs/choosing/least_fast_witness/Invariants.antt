use Rattle.std.proofs.Common.{◌≡◌, ◌&&◌, eqb}
use Rattle.ep_rules.specs.Answers.{answer}
use Rattle.ep_rules.specs.Counting.{least}
use Rattle.ep_rules.specs.Recovery as rules
use Rattle.ep_prepare.proofs.choosing.least_fast_witness.Given as goal

abbrev pub invariant-loop-r : goal.invariant-loop-r
invariant-loop-r l = l.found ≡ least l.r (λ q. eqb l.top l.leader && rules.is_fast_witness l.size l.leader (λ p. answer l.answers p) q)

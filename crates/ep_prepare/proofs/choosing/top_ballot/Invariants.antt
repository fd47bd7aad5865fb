use Rattle.std.proofs.Common.{◌≡◌}
use Rattle.ep_rules.specs.Answers.{answer}
use Rattle.ep_rules.specs.Recovery as rules
use Rattle.ep_prepare.proofs.choosing.top_ballot.Given as goal

abbrev pub invariant-loop-r : goal.invariant-loop-r
invariant-loop-r l = l.top ≡ rules.top_ballot l.leader l.r (λ q. answer l.answers q)

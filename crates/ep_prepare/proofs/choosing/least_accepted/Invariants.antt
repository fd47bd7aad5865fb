use Rattle.std.proofs.Common.{◌≡◌}
use Rattle.ep_rules.specs.Answers.{answer}
use Rattle.ep_rules.specs.Counting.{least}
use Rattle.ep_rules.specs.Recovery as rules
use Rattle.ep_prepare.proofs.choosing.least_accepted.Given as goal

abbrev pub invariant-loop-r : goal.invariant-loop-r
invariant-loop-r l = l.found ≡ least l.r (λ q. rules.votes (rules.did_accept_at l.ballot) (answer l.answers q))

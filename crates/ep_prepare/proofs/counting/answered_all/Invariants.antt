use Rattle.std.proofs.Common.{◌≡◌, ◌≤◌, is_some}
use Rattle.ep_rules.specs.Answers.{answer}
use Rattle.ep_rules.specs.Counting.{count}
use Rattle.ep_prepare.proofs.counting.answered_all.Given as goal

abbrev pub invariant-loop-r : goal.invariant-loop-r
invariant-loop-r l = record { value : l.count ≡ count l.r (λ q. is_some (answer l.answers q)); in_range : l.count ≤ l.r }

use Rattle.std.proofs.Common.{◌≡◌, eqb}
use Rattle.std.specs.Prelude.{◌||◌, not, is_some}
use Rattle.ep_base.specs.Quorums.{is_fast}
use Rattle.ep_rules.specs.Answers.{answer}
use Rattle.ep_rules.specs.Counting.{every}
use Rattle.ep_phase.proofs.counting.fast_answered.Given as goal

abbrev pub invariant-loop-r : goal.invariant-loop-r
invariant-loop-r l = l.all ≡ every l.r (λ r. not (is_fast l.leader l.spared r) || (eqb l.from r || is_some (answer l.answers r)))

use Rattle.std.proofs.Common.{◌≡◌, ◌≤◌, eqb}
use Rattle.std.specs.Prelude.{◌&&◌, ◌||◌, is_some}
use Rattle.ep_rules.specs.Answers.{answer}
use Rattle.ep_rules.specs.Counting.{count, is_other}
use Rattle.ep_phase.proofs.counting.others_with.Given as goal

abbrev pub invariant-loop-r : goal.invariant-loop-r
invariant-loop-r g l = (l.count ≡ count l.r (λ r. is_other l.me r && (eqb l.from r || is_some (answer l.answers r)))) × (l.count ≤ l.r)

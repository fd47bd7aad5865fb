use Rattle.std.proofs.Common.{◌≡◌}
use Rattle.std.specs.Prelude.{◌||◌, not, is_some}
use Rattle.ep_base.specs.Attributes.{same_attrs}
use Rattle.ep_rules.specs.Answers.{answer, with_answer}
use Rattle.ep_rules.specs.Counting.{every}
use Rattle.ep_rules.specs.Phases.{holds}
use Rattle.ep_frame.specs.Meaning.{attrs_at, sender_at}
use Rattle.ep_phase.proofs.counting.all_equal.Given as goal

abbrev pub invariant-loop-r : goal.invariant-loop-r
invariant-loop-r l =
    let all = with_answer l.answers (sender_at l.frame) (attrs_at l.frame) in
    l.all ≡ every l.r (λ r. not (is_some (answer all r)) || holds (same_attrs (attrs_at l.frame)) (answer all r))

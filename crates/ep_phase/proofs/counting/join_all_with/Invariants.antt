use Rattle.std.proofs.Common.{◌≡◌}
use Rattle.ep_rules.specs.Answers.{with_answer}
use Rattle.ep_rules.specs.Phases.{join_all}
use Rattle.ep_frame.specs.Meaning.{attrs_at, sender_at}
use Rattle.ep_phase.proofs.counting.join_all_with.Given as goal

abbrev pub invariant-loop-r : goal.invariant-loop-r
invariant-loop-r l = l.all ≡ join_all l.r (with_answer l.answers (sender_at l.frame) (attrs_at l.frame)) l.initial.all

use Rattle.ep_explain.proofs.Sending.{AreSame}
use Rattle.ep_explain.proofs.step.first_other_frame.Given as goal

abbrev pub invariant-loop-place : goal.invariant-loop-place
invariant-loop-place l = AreSame l.expected l.found l.place

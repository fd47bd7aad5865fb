use Rattle.ep_explain.specs.Steps.{same_execution}
use Rattle.ep_explain.proofs.Differing.{CountsFrom}
use Rattle.ep_explain.proofs.step.first_other_execution.Given as goal

abbrev pub invariant-loop-place : goal.invariant-loop-place
invariant-loop-place l = CountsFrom same_execution l.expected l.found l.place

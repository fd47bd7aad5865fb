use Rattle.std.specs.Char.{eq_ignore_ascii_case}
use Rattle.ep_explain.proofs.Differing.{CountsFrom}
use Rattle.ep_explain.proofs.guess.same_front.Given as goal

abbrev pub invariant-loop-place : goal.invariant-loop-place
invariant-loop-place l = CountsFrom eq_ignore_ascii_case l.one l.other l.place

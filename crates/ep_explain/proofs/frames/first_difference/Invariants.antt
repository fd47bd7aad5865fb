use Rattle.std.specs.Prelude.{nat_eq}
use Rattle.ep_explain.proofs.Differing.{CountsFrom}
use Rattle.ep_explain.proofs.frames.first_difference.Given as goal

abbrev pub invariant-loop-place : goal.invariant-loop-place
invariant-loop-place l = CountsFrom nat_eq l.one l.other l.place

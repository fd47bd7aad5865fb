use Rattle.std.proofs.Common.{◌≡◌, List, ℕ, drop}
use Rattle.ep_space.specs.Index.{run_in}
use Rattle.ep_space.proofs.index.duplicate_runs.Given as goal

abbrev pub invariant-loop-place : goal.invariant-loop-place
invariant-loop-place l = (k : List ℕ) → run_in l.same.entries k ≡ run_in (drop l.place l.runs.entries) k

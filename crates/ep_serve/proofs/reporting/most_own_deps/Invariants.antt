use Rattle.std.proofs.Common.{◌≡◌}
use Rattle.ep_replica.specs.Pending.{state_of}
use Rattle.ep_serve.specs.Answering.{most_own_deps}
use Rattle.ep_serve.proofs.reporting.most_own_deps.Given as goal

abbrev pub invariant-loop-place : goal.invariant-loop-place
invariant-loop-place l = l.most ≡ most_own_deps (state_of l.replica).records l.replica.me l.place

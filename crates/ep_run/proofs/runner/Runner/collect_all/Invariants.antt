use Rattle.std.proofs.Common.{◌≡◌}
use Rattle.ep_run.proofs.runner.Runner.collect_all.Given as goal

abbrev pub invariant-loop-index : goal.invariant-loop-index
invariant-loop-index g l = l.self.host ≡ l.fn.self.host

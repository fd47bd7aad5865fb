use Rattle.std.proofs.Common.{◌≡◌}
use Rattle.ep_run.proofs.runner.Runner.run_all.Given as goal

abbrev pub invariant-loop-section : goal.invariant-loop-section
invariant-loop-section g l = l.self.host ≡ l.fn.self.host

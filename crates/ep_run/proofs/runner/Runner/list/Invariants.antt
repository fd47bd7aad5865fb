use Rattle.std.proofs.Common.{◌≡◌}
use Rattle.ep_run.proofs.runner.Runner.list.Given as goal

abbrev pub invariant-loop-task : goal.invariant-loop-task
invariant-loop-task g l = l.self.host ≡ l.fn.self.host

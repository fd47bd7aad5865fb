use Rattle.std.proofs.Common.{◌≡◌}
use Rattle.ep_exec.specs.Held.{held}
use Rattle.ep_exec.proofs.table.sweep_all.Given as goal

abbrev pub invariant-loop-key : goal.invariant-loop-key
invariant-loop-key l = held l.table ≡ held l.fn.table

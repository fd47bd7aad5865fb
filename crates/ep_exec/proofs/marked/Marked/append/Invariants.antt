use Rattle.std.proofs.Common.{◌≡◌, ◌++◌, take}
use Rattle.ep_exec.proofs.marked.Marked.append.Given as goal

abbrev pub invariant-loop-instance : goal.invariant-loop-instance
invariant-loop-instance l = l.self ≡ l.fn.self ++ take l.instance-index l.more

use Rattle.std.proofs.Common.{◌≡◌, ◌++◌, drop}
use Rattle.std.specs.List.{filter}
use Rattle.ep_exec.specs.Ready.{is_out}
use Rattle.ep_exec.proofs.component.append_waits.Given as goal

abbrev pub invariant-loop-dep : goal.invariant-loop-dep
invariant-loop-dep l =
    l.list.items ++ filter (is_out l.own) (filter (is_out l.skipped.list) (drop l.dep-index l.dep-items))
    ≡ l.fn.list.items ++ filter (is_out l.own) (filter (is_out l.skipped.list) l.dep-items)

use Rattle.std.proofs.Common.{◌≡◌, drop}
use Rattle.ep_view.specs.Kept.{executes}
use Rattle.ep_view.proofs.selection.executes.Given as goal

abbrev pub invariant-loop-other : goal.invariant-loop-other
invariant-loop-other l = executes l.instances (drop l.other-index l.done) ≡ executes l.instances l.done

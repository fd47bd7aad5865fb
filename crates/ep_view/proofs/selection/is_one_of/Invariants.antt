use Rattle.std.proofs.Common.{◌≡◌, drop}
use Rattle.ep_view.specs.Kept.{is_one_of}
use Rattle.ep_view.proofs.selection.is_one_of.Given as goal

abbrev pub invariant-loop-other : goal.invariant-loop-other
invariant-loop-other l = is_one_of (drop l.other-index l.instances) l.instance ≡ is_one_of l.instances l.instance

use Rattle.std.proofs.Common.{◌≡◌, ◌↔◌, drop}
use Rattle.std.specs.Bool.{IsTrue}
use Rattle.ep_exec.proofs.listing.are_same.Given as goal

abbrev pub invariant-loop-index : goal.invariant-loop-index
invariant-loop-index l = IsTrue l.same ↔ (drop l.index l.items ≡ drop l.index l.others)

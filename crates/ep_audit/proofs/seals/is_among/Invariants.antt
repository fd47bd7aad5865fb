use Rattle.std.proofs.Common.{◌≡◌, false, drop}
use Rattle.ep_audit.specs.Sealed.{is_among}
use Rattle.ep_audit.proofs.seals.is_among.Given as goal

abbrev pub invariant-loop-other : goal.invariant-loop-other
invariant-loop-other l = is_among l.instance (drop l.other-index l.done) l.found ≡ is_among l.instance l.done false

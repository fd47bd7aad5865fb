use Rattle.std.proofs.Common.{◌↔◌, length}
use Rattle.ep_base.specs.Places.{Has}
use Rattle.ep_frame.specs.Fields.{deps_in}
use Rattle.ep_frame.specs.DepBytes.{AreDepBytes}
use Rattle.ep_frame.proofs.deps_view.contains_in.Given as goal

abbrev pub invariant-loop-rest : goal.invariant-loop-rest
invariant-loop-rest l = record {
  bytes : AreDepBytes l.rest;
  same : Has (deps_in l.rest) l.dep ↔ Has (deps_in l.bytes) l.dep;
}

abbrev pub decreases-loop-rest : goal.decreases-loop-rest
decreases-loop-rest l = length (deps_in l.rest)

use Rattle.std.proofs.Common.{◌≡◌, drop}
use Rattle.ep_base.specs.Attributes.{same_list}
use Rattle.ep_frame.specs.Fields.{deps_in}
use Rattle.ep_frame.proofs.handled.are_these.Given as goal

abbrev pub invariant-loop-dep : goal.invariant-loop-dep
invariant-loop-dep l = same_list (deps_in l.rest) (drop l.dep-index l.deps) ≡ same_list (deps_in l.bytes) l.deps

use Rattle.std.proofs.Common.{◌≡◌, ◌≤◌, ◌+◌, ◌*◌, ◌++◌, length}
use Rattle.std.specs.Vec.{vec_len, vec_capacity}
use Rattle.ep_frame.specs.Fields.{deps_in}
use Rattle.ep_frame.proofs.made.made_deps.Given as goal

abbrev pub invariant-loop-rest : goal.invariant-loop-rest
invariant-loop-rest l = record {
  so_far : l.deps.items ++ deps_in l.rest ≡ deps_in l.bytes;
  room : length l.rest + 3 * vec_len l.deps ≤ 3 * vec_capacity l.deps + 2;
}

abbrev pub decreases-loop-rest : goal.decreases-loop-rest
decreases-loop-rest l = length l.rest

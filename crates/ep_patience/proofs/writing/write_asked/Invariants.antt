use Rattle.std.proofs.Common.{◌≡◌, ◌≤◌, ◌+◌, ◌*◌, ◌++◌, length, take}
use Rattle.std.specs.Vec.{vec_capacity, vec_len}
use Rattle.ep_patience.specs.OpenBytes.{asked_bytes}
use Rattle.ep_patience.proofs.writing.write_asked.Given as goal

abbrev pub invariant-loop-remedy : goal.invariant-loop-remedy
invariant-loop-remedy l = record {
  so_far : l.reported.items ≡ l.fn.reported.items ++ asked_bytes (take l.remedy-index l.asked);
  room : vec_len l.reported + 4 * length l.asked ≤ vec_capacity l.reported + 4 * l.remedy-index;
}

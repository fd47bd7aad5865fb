use Rattle.std.proofs.Common.{◌≡◌, ◌≤◌, ◌*◌, take}
use Rattle.std.specs.List.{sum_by}
use Rattle.ep_wire.proofs.ReportedLengths.{reported_size}
use Rattle.ep_wire.proofs.reads.reported_len.Given as goal

abbrev pub invariant-loop-value : goal.invariant-loop-value
invariant-loop-value l = record {
  sum : l.len ≡ sum_by reported_size (take l.value-index l.values);
  bound : l.len ≤ 65540 * l.value-index;
}

use Rattle.std.proofs.Common.{◌≡◌, ◌++◌, drop}
use Rattle.ep_exec.specs.Kept.{HasRoom}
use Rattle.ep_journal.specs.Executing.{AreFresh}
use Rattle.ep_journal.proofs.execute.add_all.Given as goal

abbrev pub invariant-loop-id : goal.invariant-loop-id
invariant-loop-id l = record {
  room : HasRoom l.executed (drop l.id-index l.order);
  fresh : AreFresh l.executed.list (drop l.id-index l.order);
  list : l.executed.list ++ drop l.id-index l.order ≡ l.fn.executed.list ++ l.order;
}

use Rattle.std.proofs.Common.{◌≡◌, drop}
use Rattle.ep_view.specs.Graphs.{begun_in}
use Rattle.ep_view.proofs.beginning.add_entries.Given as goal

abbrev pub invariant-loop-entry : goal.invariant-loop-entry
invariant-loop-entry l = begun_in l.part l.replica (drop l.entry-index l.entries) l.begun ≡ begun_in l.part l.replica l.entries l.initial.begun

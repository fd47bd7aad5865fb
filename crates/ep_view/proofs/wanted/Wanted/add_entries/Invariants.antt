use Rattle.std.proofs.Common.{◌≡◌, drop}
use Rattle.ep_view.specs.Wanted.{with_entries}
use Rattle.ep_view.proofs.wanted.Wanted.add_entries.Given as goal

abbrev pub invariant-loop-entry : goal.invariant-loop-entry
invariant-loop-entry l = with_entries l.self.key l.self.client (drop l.entry-index l.entries) l.taken ≡ with_entries l.self.key l.self.client l.entries l.initial.taken

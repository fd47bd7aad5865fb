use Rattle.std.proofs.Common.{◌≡◌, ℕ, List, ◌||◌, drop}
use Rattle.ep_view.specs.Handled.{handled_in, is_in}
use Rattle.ep_view.proofs.handled.Handled.note_entries.Given as goal

abbrev pub invariant-loop-entry : goal.invariant-loop-entry
invariant-loop-entry l = (b : List ℕ) → (handled_in b (drop l.entry-index l.entries) || is_in l.self b) ≡ (handled_in b l.entries || is_in l.initial.self b)

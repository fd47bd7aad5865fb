use Rattle.std.proofs.Common.{◌≡◌, ℕ, List}
use Rattle.ep_view.specs.Handled.{handled_below, is_in}
use Rattle.ep_view.proofs.handled.Handled.note_all.Given as goal

abbrev pub invariant-loop-replica : goal.invariant-loop-replica
invariant-loop-replica l = (b : List ℕ) → is_in l.self b ≡ handled_below l.journals l.replica b

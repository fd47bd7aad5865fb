use Rattle.std.proofs.Common.{◌≡◌, ◌++◌, drop}
use Rattle.ep_view.specs.Walks.{reported_at}
use Rattle.ep_view.proofs.walk.push_kept.Given as goal

abbrev pub invariant-loop-place : goal.invariant-loop-place
invariant-loop-place g l = l.text.items ++ reported_at (g.P.Printer.reported l.printer) l.part l.journals (drop l.place-index l.places) ≡ l.initial.text.items ++ reported_at (g.P.Printer.reported l.printer) l.part l.journals l.places

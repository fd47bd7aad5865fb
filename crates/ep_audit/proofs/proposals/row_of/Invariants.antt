use Rattle.ep_audit.specs.Proposing.{IsRowFrom}
use Rattle.ep_audit.proofs.proposals.row_of.Given as goal

abbrev pub invariant-loop-place : goal.invariant-loop-place
invariant-loop-place l = IsRowFrom l.replica l.place l.entries l.places.items

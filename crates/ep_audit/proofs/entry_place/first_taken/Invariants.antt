use Rattle.std.proofs.Common.{◌≡◌, drop}
use Rattle.ep_audit.specs.Turns.{first_taken}
use Rattle.ep_audit.proofs.entry_place.first_taken.Given as goal

abbrev pub invariant-loop-entry : goal.invariant-loop-entry
invariant-loop-entry l = first_taken l.all (drop l.entry-index l.entries) ≡ first_taken l.all l.entries

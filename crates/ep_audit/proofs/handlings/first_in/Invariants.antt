use Rattle.std.proofs.Common.{◌≡◌, drop}
use Rattle.ep_audit.specs.Handlings.{first_in}
use Rattle.ep_audit.proofs.handlings.first_in.Given as goal

abbrev pub invariant-loop-entry : goal.invariant-loop-entry
invariant-loop-entry l = first_in l.journals l.replica (drop l.entry-index l.entries) ≡ first_in l.journals l.replica l.entries

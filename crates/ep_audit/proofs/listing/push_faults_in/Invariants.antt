use Rattle.std.proofs.Common.{◌≡◌, ◌++◌, drop}
use Rattle.ep_audit.specs.Listed.{faults_in}
use Rattle.ep_audit.proofs.listing.push_faults_in.Given as goal

abbrev pub invariant-loop-entry : goal.invariant-loop-entry
invariant-loop-entry l = l.found.items ++ faults_in l.journals l.replica (drop l.entry-index l.entries) ≡ l.initial.found.items ++ faults_in l.journals l.replica l.entries

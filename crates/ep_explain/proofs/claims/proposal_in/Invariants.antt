use Rattle.std.proofs.Common.{◌≡◌, drop}
use Rattle.ep_audit.specs.Lookups.{proposal_in}
use Rattle.ep_explain.proofs.claims.proposal_in.Given as goal

abbrev pub invariant-loop-entry : goal.invariant-loop-entry
invariant-loop-entry l = proposal_in (drop l.entry-index l.entries) l.instance ≡ proposal_in l.entries l.instance

use Rattle.std.proofs.Common.{◌≡◌, length}
use Rattle.ep_audit.specs.Chained.{AreLinked}
use Rattle.ep_audit.proofs.chain.audit_chain.Given as goal

abbrev pub invariant-loop-place : goal.invariant-loop-place
invariant-loop-place l = record {
  count : length l.verdicts.items ≡ l.place;
  linked : AreLinked l.links l.verdicts.items;
}

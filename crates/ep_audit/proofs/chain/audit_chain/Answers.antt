use Rattle.std.proofs.Common.{◌≡◌, ◌≤◌, length, arith}
use Rattle.ep_audit.proofs.Linking.{chained}
use Rattle.ep_audit.proofs.chain.audit_chain.Goals as goal

pub returns-clause-ok : goal.returns-clause-ok
returns-clause-ok c =
    let done : length c.args.links.now ≤ c.loop-place.place = c.loop-place-test.false in
    let bound : c.loop-place.place ≤ length c.args.links.now = c.loop-place.auto.place-end in
    let count : length c.loop-place.verdicts.items ≡ c.loop-place.place = c.loop-place.invariant.count in
    chained c.args.links.now c.loop-place.verdicts.items (omega arith) c.loop-place.invariant.linked

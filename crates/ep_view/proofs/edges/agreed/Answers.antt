use Rattle.std.proofs.Common.{◌≡◌, ◌<◌, IfOk, IfSome, subst}
use Rattle.ep_base.specs.Quorums.{size}
use Rattle.ep_journal.specs.Entries.{entries_at}
use Rattle.ep_view.proofs.Agreeing.{found_here}
use Rattle.ep_view.proofs.edges.agreed.Goals as goal

pub returns-in-Some : goal.returns-in-Some
returns-in-Some c =
    let at : c.unwrap-id.result ≡ c.loop-replica.replica = subst (λ o. IfOk o (λ r. r ≡ c.loop-replica.replica)) c.unwrap-id.ensures c.new.ensures.value in
    let is = subst (λ o. IfSome o (λ j. (c.unwrap-id.result < size c.args.journals.now.faults) × (j.now.version ≡ c.args.journals.now.version) × (j.now.faults ≡ c.args.journals.now.faults) × (j.now.me ≡ c.unwrap-id.result) × (j.now.opening ≡ c.args.journals.now.opening) × (j.now.entries ≡ entries_at c.args.journals.now c.unwrap-id.result))) c.unwrap.ensures c.get.ensures.some in
    found_here c.args.journals.now c.loop-replica.replica c.unwrap-id.result c.unwrap.result.now c.args.instance c.in-Some.decree.now is at c.loop-replica.invariant c.in-Some.ensures

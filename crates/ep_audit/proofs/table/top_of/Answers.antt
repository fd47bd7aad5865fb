use Rattle.std.proofs.Common.{◌≡◌, ◌<◌, IfOk, IfSome, None, ℕ, subst, ap, arith}
use Rattle.ep_base.specs.Instances.{highest_number}
use Rattle.ep_base.specs.Quorums.{size}
use Rattle.ep_journal.specs.Entries.{entries_at, journals_of}
use Rattle.ep_journal.specs.Leaving.{standing}
use Rattle.ep_journal.specs.Openings.{opens}
use Rattle.ep_journal.proofs.Highest.{none_above}
use Rattle.ep_rules.specs.Verdicts.{agreed_below}
use Rattle.ep_audit.proofs.Covering.{none_here}
use Rattle.ep_audit.proofs.table.top_of.Goals as goal

pub loop-replica-preserved : goal.loop-replica-preserved
loop-replica-preserved c =
    let at : c.unwrap-id.result ≡ c.loop-replica.replica = subst (λ o. IfOk o (λ r. r ≡ c.loop-replica.replica)) c.unwrap-id.ensures c.new.ensures.value in
    let is = subst (λ o. IfSome o (λ j. (c.unwrap-id.result < size c.args.journals.now.faults) × (j.now.version ≡ c.args.journals.now.version) × (j.now.faults ≡ c.args.journals.now.faults) × (j.now.me ≡ c.unwrap-id.result) × (j.now.opening ≡ c.args.journals.now.opening) × (j.now.entries ≡ entries_at c.args.journals.now c.unwrap-id.result))) c.unwrap.ensures c.get.ensures.some in
    let first = c.greater-top.ensures.first in
    let second = c.greater-top.ensures.second in
    record {
      bounded = c.greater-top.ensures.most highest_number c.loop-replica.invariant.bounded c.highest.ensures.bounded;
      none = λ i past.
          none_here c.args.journals.now c.loop-replica.replica c.unwrap-id.result c.unwrap.result.now i is at (c.loop-replica.invariant.none i (omega (arith, first, past)))
          (none_above (standing c.unwrap.result.now).state.records c.highest.result i c.highest.ensures.all (omega (arith, second, past)));
    }

pub returns-clause-none : goal.returns-clause-none
returns-clause-none c =
    let end : c.loop-replica.replica ≡ size c.args.journals.now.faults = omega (arith, ap size c.size.ensures, c.loop-replica-test.false, c.loop-replica.auto.replica-end, c.count-replica-end.ensures.value) in
    λ i past. subst (λ n. agreed_below (opens c.args.journals.now.opening) n c.args.journals.now.faults (journals_of c.args.journals.now) i ≡ None) end (c.loop-replica.invariant.none i past)

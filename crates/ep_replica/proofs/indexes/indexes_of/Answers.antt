use Rattle.std.proofs.Common.{subst, arith}
use Rattle.ep_replica.specs.FirstExecutions.{AreFirsts}
use Rattle.ep_replica.specs.Slots.{HoldsProposals}
use Rattle.ep_replica.proofs.indexes.indexes_of.Goals as goal

pub returns-clause-slots : goal.returns-clause-slots
returns-clause-slots c =
    subst (λ es. HoldsProposals c.args.journal.now.me es c.in_ok-slots.slots) c.entries-2.ensures.entries (subst (λ r. HoldsProposals r c.entries-2.result.now c.in_ok-slots.slots) c.me.ensures c.in_ok-slots.ensures)

pub returns-clause-some : goal.returns-clause-some
returns-clause-some c =
    let range = c.faults-faults.ensures.in_range in
    let value = c.faults-faults.ensures.value in
    let size = c.size.ensures in
    omega (arith, range, value, size)

pub returns-clause-remembered : goal.returns-clause-remembered
returns-clause-remembered c = c.in_ok-remembered.ensures.all c.args.journal.now c.highest.ensures.all

pub returns-clause-fits : goal.returns-clause-fits
returns-clause-fits c = c.in_ok-remembered.ensures.fits

pub returns-clause-firsts : goal.returns-clause-firsts
returns-clause-firsts c =
    subst (λ es. AreFirsts c.args.journal.now.me es c.in_ok-firsts.firsts) c.entries-3.ensures.entries (subst (λ r. AreFirsts r c.entries-3.result.now c.in_ok-firsts.firsts) c.me-2.ensures c.in_ok-firsts.ensures)

use Rattle.std.proofs.Common.{◌≡◌, ◌<◌, Some, refl, sym, subst, ◌∙◌, arith}
use Rattle.ep_journal.specs.declared.event.Event.TheVariants.{Propose}
use Rattle.ep_replica.specs.Pending.{Submits}
use Rattle.ep_replica.proofs.Taking.{Named, named_taken}
use Rattle.ep_replica.proofs.replica.Replica.submit_named.Goals as goal

pub unwrap-requires : goal.unwrap-requires
unwrap-requires c =
    let some : 0 < c.args.self.now.faults = (let v = c.faults-faults.ensures.value in let r = c.faults-faults.ensures.in_range in let s = c.size.ensures in omega arith) in
    let n : Named c.args.self.now (Propose c.args.proposal.client c.args.proposal.request c.args.command c.args.proposal.seen c.args.named) c.take.new.self c.named_last.result =
    named_taken c.args.self.now c.take.new.self c.args.proposal.client c.args.proposal.request c.args.command c.args.proposal.seen c.args.named c.named_last.result some c.in_ok-take.ensures.ok
    (λ before e is. c.named_last.ensures before e (c.entries.ensures.entries ∙ c.journal.ensures.entries ∙ is))
    in
    rw (n.is) refl

pub returns-clause-ok : goal.returns-clause-ok
returns-clause-ok c =
    let some : 0 < c.args.self.now.faults = (let v = c.faults-faults.ensures.value in let r = c.faults-faults.ensures.in_range in let s = c.size.ensures in omega arith) in
    let n : Named c.args.self.now (Propose c.args.proposal.client c.args.proposal.request c.args.command c.args.proposal.seen c.args.named) c.take.new.self c.named_last.result =
    named_taken c.args.self.now c.take.new.self c.args.proposal.client c.args.proposal.request c.args.command c.args.proposal.seen c.args.named c.named_last.result some c.in_ok-take.ensures.ok
    (λ before e is. c.named_last.ensures before e (c.entries.ensures.entries ∙ c.journal.ensures.entries ∙ is))
    in
    let both : Some n.taken ≡ Some c.unwrap.result = sym n.is ∙ c.unwrap.ensures in
    let same : n.taken ≡ c.unwrap.result = cc in
    subst (λ i. Submits c.args.self.now (Propose c.args.proposal.client c.args.proposal.request c.args.command c.args.proposal.seen c.args.named) i c.take.new.self) same n.submits

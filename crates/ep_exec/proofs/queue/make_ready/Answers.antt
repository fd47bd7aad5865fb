use Rattle.std.proofs.Common.{rules, inr, ℕ, List, Option, subst}
use Rattle.ep_exec.specs.Queue.{IsPriority}
use Rattle.ep_exec.proofs.queue.make_ready.Goals as goal

pub returns-in-Ok : goal.returns-in-Ok
returns-in-Ok c =
    let executed : List ℕ = c.args.executed.now.list in
    let named : IsPriority executed c.args.part.members c.priority_of.result = subst (λ (ms : List ℕ). IsPriority executed ms c.priority_of.result) c.members.ensures c.priority_of.ensures in
    inr (c.in-Some.priority, subst (λ (o : Option ℕ). IsPriority executed c.args.part.members o) c.in-Some.is named, λ q. search rules)

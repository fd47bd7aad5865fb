use Rattle.std.proofs.Common.{◌≡◌, [], List, subst, arith}
use Rattle.std.proofs.lemmas.List.{nil_from_length}
use Rattle.ep_exec.specs.Queue.{ready_at, waiting_at, Stands}
use Rattle.ep_exec.specs.Ready.{Waiting}
use Rattle.ep_exec.proofs.queue.look_at_all.Goals as goal

pub loop-part-preserved : goal.loop-part-preserved
loop-part-preserved c = λ g all left s.
    c.in_ok-look_at.ensures g all left c.pop.new.self.items
    (subst (λ (ws : List Waiting). Stands g c.args.executed.now.list all c.args.finished.now ws left (ready_at c.loop-part.queue.ready) (waiting_at c.loop-part.queue.waiters)) c.in-Some.ensures.items (c.loop-part.invariant g all left s))

pub returns : goal.returns
returns c = λ g all left s.
    let none : c.loop-part.parts.items ≡ [] = nil_from_length c.loop-part.parts.items (omega (arith, c.in_default.ensures.cases.0, c.loop-part.parts.ok.0)) in
    subst (λ (ws : List Waiting). Stands g c.args.executed.now.list all c.args.finished.now ws left (ready_at c.loop-part.queue.ready) (waiting_at c.loop-part.queue.waiters)) none (c.loop-part.invariant g all left s)

use Rattle.std.proofs.Common.{◌≡◌, ◌+◌, [], ◌∷◌, List, ℕ, drop, subst, arith}
use Rattle.std.proofs.lemmas.List.{drop_all}
use Rattle.ep_exec.specs.Queue.{ready_at, waiting_at, Stands}
use Rattle.ep_exec.proofs.Nexts.{next}
use Rattle.ep_exec.proofs.Standing.{woken}
use Rattle.ep_exec.proofs.queue.wake.Goals as goal

pub loop-instance-preserved : goal.loop-instance-preserved
loop-instance-preserved c = λ g all s.
    let xs : List ℕ = c.args.list.now in
    let i : ℕ = c.loop-instance.instance-index in
    let m : ℕ = c.instance-item.result in
    let rest : List ℕ = drop (i + 1) xs in
    let parted : drop i xs ≡ m ∷ rest = next (λ (ys : List ℕ). ys) xs i m c.loop-instance-test.true c.instance-item.is in
    c.in_ok-look_at_all.ensures g all rest
    (woken g c.args.executed.now.list all c.args.finished.now m rest (ready_at c.loop-instance.queue.ready) (waiting_at c.loop-instance.queue.waiters) (waiting_at c.take_waiting-parts.new.waiters) c.take_waiting-parts.result.items c.take_waiting-parts.ensures.parts c.take_waiting-parts.ensures.others
    (subst (λ (ys : List ℕ). Stands g c.args.executed.now.list all c.args.finished.now [] ys (ready_at c.loop-instance.queue.ready) (waiting_at c.loop-instance.queue.waiters)) parted (c.loop-instance.invariant g all s)))

pub returns : goal.returns
returns c = λ g all s.
    subst (λ (ys : List ℕ). Stands g c.args.executed.now.list all c.args.finished.now [] ys (ready_at c.loop-instance.queue.ready) (waiting_at c.loop-instance.queue.waiters))
    (drop_all c.loop-instance.instance-index c.args.list.now (let past = c.loop-instance-test.false in omega arith))
    (c.loop-instance.invariant g all s)

use Rattle.std.proofs.Common.{arith, true, false, refl}
use Rattle.ep_host.proofs.Mailing.{letting_none, letting_more, letting_all, letting_end, few_let_go}
use Rattle.ep_host.proofs.outlet.Outlet.release.Goals as goal
use Rattle.ep_host.proofs.outlet.Outlet.release.Goals.{then-not-put, else-not-put}

pub loop-init : goal.loop-init
loop-init g c = letting_none c.args.self.now

pub overflow_add-lost : goal.overflow_add-lost
overflow_add-lost g c = let few = few_let_go c.loop.lost c.loop.counter c.args.self.now c.loop.self c.loop.invariant in omega (arith, few, c.loop-test.true, c.len-end.type_inv)

pub loop-preserved : goal.loop-preserved
loop-preserved g c =
    let lost = c.loop.lost in let gone = c.loop.counter in let f = c.in-Some.frame in let a = c.args.self.now in let b = c.loop.self in let e = c.put.new.self in
    elim c.if-not-put.branch [
      | then-not-put w ↦ rw w.lost-is (letting_more false lost gone f a b _ e c.loop.invariant c.in-Some.ensures.items refl refl w.if-not-put.ensures)
      | else-not-put w ↦ rw w.lost-is (letting_more true lost gone f a b _ e c.loop.invariant c.in-Some.ensures.items refl refl w.if-not-put.ensures)
    ]

pub returns-after-loop : goal.returns-after-loop
returns-after-loop g c = letting_all c.loop.lost c.loop.counter c.args.self.now c.loop.self (omega (arith, c.loop-test.false, c.len-end.ensures)) c.loop.invariant

pub returns-in_default : goal.returns-in_default
returns-in_default g c = letting_end c.loop.lost c.loop.counter c.args.self.now c.loop.self _ (omega (arith, c.loop-test.true, c.len-end.ensures)) (c.in_default.ensures.none) c.loop.invariant

use Rattle.std.proofs.Common.{arith, ap, ◌≡◌, ◌∷◌, ℕ, List, sym, ◌∙◌}
use Rattle.ep_host.specs.Rings.{KeepsLink}
use Rattle.ep_host.proofs.Releasing.{releasing_none, few_missed, releasing_put, releasing_lost, releasing_all, releasing_end}
use Rattle.ep_host.proofs.link.Link.release.Goals as goal
use Rattle.ep_host.proofs.link.Link.release.Goals.{then-not-put, else-not-put}

pub loop-init : goal.loop-init
loop-init c = releasing_none c.args.self.now

pub overflow_add-lost : goal.overflow_add-lost
overflow_add-lost c = let few = few_missed c.loop.lost c.loop.counter c.args.self.now c.loop.self c.loop.invariant in omega (arith, few, c.loop-test.true, c.len-end.type_inv)

pub loop-preserved : goal.loop-preserved
loop-preserved c = let a = c.args.self.now in let b = c.loop.self in let d = c.put.new.self in let p = c.put.ensures in
    let held : b.held ≡ c.in-Some.frame ∷ d.held = c.in-Some.ensures.items ∙ ap (λ (l : List (List ℕ)). c.in-Some.frame ∷ l) (sym p.same.2) in
    let keeps : KeepsLink b d = record { peer = p.keeps.peer; to = p.keeps.to; from = p.keeps.from } in
    elim c.if-not-put.branch [
      | then-not-put w ↦ rw w.lost-is (releasing_lost c.loop.lost c.loop.counter c.in-Some.frame a b d c.loop.invariant keeps held w.if-not-put.ensures.put p.same.0 p.same.1)
      | else-not-put w ↦ rw w.lost-is (releasing_put c.loop.lost c.loop.counter c.in-Some.frame a b d c.loop.invariant keeps held w.if-not-put.ensures.put p.same.0 p.same.1)
    ]

pub returns-after-loop : goal.returns-after-loop
returns-after-loop c = releasing_all c.loop.lost c.loop.counter c.args.self.now c.loop.self (omega (arith, c.loop-test.false, c.len-end.ensures)) c.loop.invariant

pub returns-in_default : goal.returns-in_default
returns-in_default c = releasing_end c.loop.lost c.loop.counter c.args.self.now c.loop.self _ (omega (arith, c.loop-test.true, c.len-end.ensures)) (c.in_default.ensures.none) c.loop.invariant

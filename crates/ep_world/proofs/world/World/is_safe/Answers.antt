use Rattle.std.proofs.Common.{◌≤◌, subst, arith}
use Rattle.ep_world.specs.Played.{Played, IsWorld}
use Rattle.ep_world.proofs.Laws.{agree, were_proposed, depend, linearizable}
use Rattle.ep_world.proofs.world.World.is_safe.Goals as goal

pub returns-clause-agreement : goal.returns-clause-agreement
returns-clause-agreement c =
    let v = c.faults-faults.ensures.value in
    let limits = c.faults-faults.ensures.in_range in
    let some : 1 ≤ c.self.inside.size = omega arith in
    let few : c.self.inside.size ≤ 3 = omega arith in
    agree c.args.self.now (subst IsWorld c.self.view_is c.self.invariant.1) (subst (λ (w : Played). 1 ≤ w.faults) c.self.view_is some) (subst (λ (w : Played). w.faults ≤ 3) c.self.view_is few)

pub returns-clause-validity : goal.returns-clause-validity
returns-clause-validity c =
    let v = c.faults-faults.ensures.value in
    let limits = c.faults-faults.ensures.in_range in
    let some : 1 ≤ c.self.inside.size = omega arith in
    let few : c.self.inside.size ≤ 3 = omega arith in
    were_proposed c.args.self.now (subst IsWorld c.self.view_is c.self.invariant.1) (subst (λ (w : Played). 1 ≤ w.faults) c.self.view_is some) (subst (λ (w : Played). w.faults ≤ 3) c.self.view_is few)

pub returns-clause-dependency : goal.returns-clause-dependency
returns-clause-dependency c =
    let v = c.faults-faults.ensures.value in
    let limits = c.faults-faults.ensures.in_range in
    let some : 1 ≤ c.self.inside.size = omega arith in
    let few : c.self.inside.size ≤ 3 = omega arith in
    depend c.args.self.now (subst IsWorld c.self.view_is c.self.invariant.1) (subst (λ (w : Played). 1 ≤ w.faults) c.self.view_is some) (subst (λ (w : Played). w.faults ≤ 3) c.self.view_is few)

pub returns-clause-linearizable : goal.returns-clause-linearizable
returns-clause-linearizable c =
    let v = c.faults-faults.ensures.value in
    let limits = c.faults-faults.ensures.in_range in
    let some : 1 ≤ c.self.inside.size = omega arith in
    let few : c.self.inside.size ≤ 3 = omega arith in
    linearizable c.args.self.now (subst IsWorld c.self.view_is c.self.invariant.1) (subst (λ (w : Played). 1 ≤ w.faults) c.self.view_is some) (subst (λ (w : Played). w.faults ≤ 3) c.self.view_is few)

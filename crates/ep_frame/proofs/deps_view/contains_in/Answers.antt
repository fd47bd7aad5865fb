use Rattle.std.proofs.Common.{refl}
use Rattle.ep_frame.proofs.DepBytes.{parted, high_has, low_has, middle_has}
use Rattle.ep_frame.proofs.deps_view.contains_in.Goals as goal

pub loop-rest-preserved-in-Less : goal.loop-rest-preserved-in-Less
loop-rest-preserved-in-Less c =
    let p = parted c.loop-rest.rest.now c.split_in.result.0.now c.split_in.result.1.now c.first_in-middle.result.1.now c.first_in-middle.result.0 c.args.dep c.loop-rest.invariant.bytes c.split_in.ensures.deps c.first_in-middle.ensures.deps in
    let s = high_has _ _ _ _ _ p c.in-Less.ensures in
    let same = c.loop-rest.invariant.same in
    record { bytes = c.first_in-middle.ensures.rest; same = (λ k. same.0 (s.0 k), λ k. s.1 (same.1 k)) }

pub returns-in-Equal : goal.returns-in-Equal
returns-in-Equal c =
    let p = parted c.loop-rest.rest.now c.split_in.result.0.now c.split_in.result.1.now c.first_in-middle.result.1.now c.first_in-middle.result.0 c.args.dep c.loop-rest.invariant.bytes c.split_in.ensures.deps c.first_in-middle.ensures.deps in
    let has = c.loop-rest.invariant.same.0 (middle_has _ _ _ _ _ p c.in-Equal.ensures) in
    (λ t. has, λ k. refl)

pub loop-rest-preserved : goal.loop-rest-preserved
loop-rest-preserved c =
    let p = parted c.loop-rest.rest.now c.split_in.result.0.now c.split_in.result.1.now c.first_in-middle.result.1.now c.first_in-middle.result.0 c.args.dep c.loop-rest.invariant.bytes c.split_in.ensures.deps c.first_in-middle.ensures.deps in
    let s = low_has _ _ _ _ _ p c.in-Greater.ensures in
    let same = c.loop-rest.invariant.same in
    record { bytes = c.split_in.ensures.first; same = (λ k. same.0 (s.0 k), λ k. s.1 (same.1 k)) }

use Rattle.std.proofs.Common.{rules, arith, ◌≡◌, ◌-◌, ◌+◌, ◌<◌, length, take, subst, ◌∙◌}
use Rattle.ep_bundle.specs.Filling.{Begun}
use Rattle.ep_bundle.proofs.Filled.{more, front, short}
use borrow.Rule.Slice.PartMut.{put_mid}
use Rattle.ep_bundle.proofs.fields.fill_from.Goals as goal

pub loop-at-preserved : goal.loop-at-preserved
loop-at-preserved g c =
    let step = c.in_ok-count.ensures in
    record {
      long = search rules;
      within = search rules;
      bytes = λ zs h.
          subst (λ bs. Begun zs bs (g.S.Source.left c.pull.new.self)) (front c.loop-at.at (length c.loop-at.buf - c.loop-at.at) c.in_ok-count.count c.loop-at.buf c.pull.new.buf c.loop-at.invariant.within step.bound)
          (more zs _ _ _ _ (c.loop-at.invariant.bytes zs h) step.bytes.0);
      reported = step.bytes.2 ∙ c.loop-at.invariant.reported;
    }

pub returns-then-count-eq0-clause-bytes : goal.returns-then-count-eq0-clause-bytes
returns-then-count-eq0-clause-bytes g c = λ zs h.
    let step = c.in_ok-count.ensures in
    let room : 0 < length c.pull.new.buf = search rules in
    let s = short zs c.loop-at.buf c.loop-at.at c.in_ok-count.count (g.S.Source.left c.loop-at.source) (g.S.Source.left c.pull.new.self) (take c.in_ok-count.count c.pull.new.buf) c.loop-at-test.true (c.loop-at.invariant.bytes zs h) (step.bytes.1 c.if-count-eq0.true room) step.bytes.0 in
    let b = subst (λ bs. Begun zs bs (g.S.Source.left c.pull.new.self)) (front c.loop-at.at (length c.loop-at.buf - c.loop-at.at) c.in_ok-count.count c.loop-at.buf c.pull.new.buf c.loop-at.invariant.within step.bound) (more zs _ _ _ _ (c.loop-at.invariant.bytes zs h) step.bytes.0) in
    let same : length (put_mid c.loop-at.at (length c.loop-at.buf - c.loop-at.at) c.loop-at.buf c.pull.new.buf) ≡ length c.loop-at.buf = search rules in
    let e : c.loop-at.at + c.in_ok-count.count ≡ c.loop-at.at = omega (arith, c.if-count-eq0.true) in
    (omega (arith, same, c.loop-at.invariant.within), subst (λ n. Begun zs (take n (put_mid c.loop-at.at (length c.loop-at.buf - c.loop-at.at) c.loop-at.buf c.pull.new.buf)) (g.S.Source.left c.pull.new.self)) e b, λ lt. s.1)

pub returns-clause-bytes : goal.returns-clause-bytes
returns-clause-bytes g c = λ zs h. (c.loop-at.invariant.within, c.loop-at.invariant.bytes zs h, λ lt. absurd (omega (arith, c.loop-at-test.false)))

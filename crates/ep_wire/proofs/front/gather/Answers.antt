use Rattle.std.proofs.Common.{rules, ◌-◌, length, subst, ◌∙◌}
use Rattle.ep_bundle.specs.Filling.{Begun}
use Rattle.ep_bundle.proofs.Filled.{more, front}
use Rattle.ep_wire.proofs.front.gather.Goals as goal

pub loop-at-preserved : goal.loop-at-preserved
loop-at-preserved g c =
    let step = c.in_ok-count.ensures in
    record {
      long = search rules;
      within = search rules;
      bytes = λ zs h.
          subst (λ bs. Begun zs bs (g.S.Source.left c.pull.new.self)) (front c.loop-at.at (length c.loop-at.buf - c.loop-at.at) c.in_ok-count.count c.loop-at.buf c.pull.new.buf c.loop-at.invariant.within step.bound)
          (more zs _ _ _ _ (c.loop-at.invariant.bytes zs h) step.bytes.0);
      reported = step.bytes.2 ∙ c.loop-at.invariant.reported;
    }
